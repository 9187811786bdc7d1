-- Two results of a call with the same answer are equal, so the contracts of the calls state one result.
-- Assumes nothing.
use mathlib.Core.Path.{◌≡◌, refl}
use mathlib.Core.Bool.{Bool, true, false}
use mathlib.Core.List.{List, [], ◌∷◌}
use Prim.Native.Nat.{ℕ}
use lib.Dec.{eqb}
use Rattle.std.specs.Prelude.{Option, Some, None, Result}
use Rattle.plan.specs.declared.Body.{Body}
use Rattle.model.specs.Tests.{pick}
use Rattle.model.specs.declared.refusal.Refusal.{Refusal}
use Rattle.rowset.proofs.Same.{answer_same, first_of}
use Rattle.deletion.specs.Reading.{counted_of, contained_of}
use Rattle.plan.specs.Plans.{values_of}
use Rattle.plan.proofs.Same.{body_from}
use Rattle.deletion.specs.Striking.{struck_values, struck_of}

pub counted_same : (a b : Result ℕ Refusal) → counted_of a ≡ counted_of b → a ≡ b
unfolding counted_of
counted_same a b e = answer_same (λ n. n ∷ []) first_of (λ n. refl) a b e

abbrev yes_from : List ℕ → Bool
yes_from vs = eqb (first_of vs) 1

yes_back : (yes : Bool) → yes_from (pick {A = ℕ} yes 1 0 ∷ []) ≡ yes
unfolding pick
yes_back true = refl
yes_back false = refl

pub contained_same : (a b : Result Bool Refusal) → contained_of a ≡ contained_of b → a ≡ b
unfolding contained_of
contained_same a b e = answer_same (λ yes. pick {A = ℕ} yes 1 0 ∷ []) yes_from yes_back a b e

abbrev struck_from : List ℕ → Option Body
struck_from (t ∷ v ∷ vs) = Some (body_from (t ∷ v ∷ vs))
struck_from vs = None

struck_back : (o : Option Body) → struck_from (struck_values o) ≡ o
unfolding struck_values values_of
struck_back None = refl
struck_back (Some b) = refl

pub struck_same : (a b : Result (Option Body) Refusal) → struck_of a ≡ struck_of b → a ≡ b
unfolding struck_of
struck_same a b e = answer_same struck_values struck_from struck_back a b e
