-- A plan's answer in document 01's numbers and values.
-- Assumes nothing.
use Rattle.std.specs.Prelude.{List, [], ◌∷◌, ℕ, Result}
use Rattle.model.specs.Answers.{Answer}
use Rattle.model.specs.declared.refusal.Refusal.{Refusal}
use Rattle.model.specs.Refusals.{answer_of}
use Rattle.plan.specs.declared.Body.{Body}

-- tag, body length, segments after merging, offers
unfoldable pub values_of : Body → List ℕ
values_of b = b.tag ∷ b.length ∷ b.segments ∷ b.offers ∷ []

unfoldable pub planned_of : Result Body Refusal → Answer
planned_of r = answer_of values_of r
