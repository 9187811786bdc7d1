-- Two results with the same answer are equal, so the contracts of planning state one result.
-- Assumes nothing.
use mathlib.Core.Path.{◌≡◌, refl, sym, ap, ◌∙◌}
use mathlib.Core.List.{List, [], ◌∷◌}
use Prim.Native.Nat.{ℕ, ◌-◌}
use native.Mathlib.Omega.{arith}
use lib.ListN.{get_or}
use Rattle.std.proofs.Common.{Result, Ok, Err}
use Rattle.model.specs.Answers.{Answer}
use Rattle.model.specs.declared.refusal.Refusal.{Refusal}
use Rattle.model.specs.declared.refusal.Refusal.TheVariants as refusal
use Rattle.model.specs.Refusals.{number_of}
use Rattle.model.proofs.Answers.{same_number, same_size}
use Rattle.plan.specs.declared.Body.{Body}
use Rattle.plan.specs.Plans.{values_of, planned_of}

-- a plan from its values
abbrev pub body_from : List ℕ → Body
body_from vs = record { tag = get_or vs 0 0; length = get_or vs 1 0; segments = get_or vs 2 0; offers = get_or vs 3 0 }

-- a refusal from its number
each : List Refusal
each =
    refusal.Coverage ∷ refusal.RowCount ∷ refusal.Order ∷ refusal.SeedEnds ∷ refusal.Workspace ∷ refusal.Limit ∷ refusal.Output ∷ refusal.Body ∷ refusal.Block ∷ refusal.Count ∷ refusal.Table ∷ refusal.Record ∷ []

from_number : ℕ → Refusal
from_number n = get_or each (n - 1) refusal.Record

from_number-of : (r : Refusal) → from_number (number_of r) ≡ r
unfolding each from_number
from_number-of refusal.Coverage = refl
from_number-of refusal.RowCount = refl
from_number-of refusal.Order = refl
from_number-of refusal.SeedEnds = refl
from_number-of refusal.Workspace = refl
from_number-of refusal.Limit = refl
from_number-of refusal.Output = refl
from_number-of refusal.Body = refl
from_number-of refusal.Block = refl
from_number-of refusal.Count = refl
from_number-of refusal.Table = refl
from_number-of refusal.Record = refl

pub refusal_same : (r s : Refusal) → number_of r ≡ number_of s → r ≡ s
refusal_same r s e = sym (from_number-of r) ∙ ap from_number e ∙ from_number-of s

pub planned_same : (a b : Result Body Refusal) → planned_of a ≡ planned_of b → a ≡ b
unfolding planned_of values_of
planned_same (Ok a) (Ok b) e = ap (λ (x : Answer). Ok (body_from x.values)) e
planned_same (Ok a) (Err k) e = absurd (omega (arith, same_size e))
planned_same (Err k) (Ok b) e = absurd (omega (arith, same_size e))
planned_same (Err k) (Err m) e = ap Err (refusal_same k m (same_number e))
