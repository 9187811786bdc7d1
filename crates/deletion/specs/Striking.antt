-- The deletion view, planned: what is answered, and what stands in the output and in the workspace then.
-- Assumes nothing.
use Rattle.std.specs.Prelude.{Bool, List, [], ◌∷◌, ℕ, leb, length, Option, Some, None, Result}
use Rattle.model.specs.Tests.{pick, both}
use Rattle.model.specs.Answers.{Answer, accepted, refused}
use Rattle.model.specs.Refusals.{answer_of}
use Rattle.model.specs.declared.refusal.Refusal.{Refusal}
use Rattle.planning.specs.Planning.{plan_of, plan_out, plan_work}
use Rattle.plan.specs.declared.Body.{Body}
use Rattle.plan.specs.Plans.{values_of}
use Rattle.deletion.specs.Reading.{body_limit, block_fits}

-- no deletions: their number, 0, and no tag
abbrev pub no_deletions : Answer
no_deletions = accepted (0 ∷ [])

-- tag, body length, segments after merging and offers of a plan
unfoldable pub struck_values : Option Body → List ℕ
struck_values None = 0 ∷ []
struck_values (Some b) = values_of b

unfoldable pub struck_of : Result (Option Body) Refusal → Answer
struck_of result = answer_of struck_values result

-- whether there is anything to plan: test 9 is met, and there are deletions
unfoldable pub strikes : ℕ → ℕ → List ℕ → Bool
strikes rows limit ordinals = both (block_fits rows limit) (leb 1 (length ordinals))

-- 9; no deletions: Empty; then planning over [0, row count), the body at most a bitmap of all rows
unfoldable pub strike_of : ℕ → ℕ → List ℕ → ℕ → ℕ → Answer
strike_of rows limit ordinals words room =
    pick (block_fits rows limit)
    (pick (leb 1 (length ordinals)) (plan_of 0 rows ordinals [] (body_limit rows) words room) no_deletions)
    (refused 9)

-- the output: where nothing is planned, nothing is written
unfoldable pub strike_out : ℕ → ℕ → List ℕ → ℕ → List ℕ → List ℕ
strike_out rows limit ordinals words out = pick (strikes rows limit ordinals) (plan_out 0 rows ordinals [] (body_limit rows) words out) out

-- nor is the workspace touched
unfoldable pub strike_work : ℕ → ℕ → List ℕ → List ℕ → List ℕ
strike_work rows limit ordinals work = pick (strikes rows limit ordinals) (plan_work 0 rows ordinals [] work) work
