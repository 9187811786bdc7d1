-- Two results of a call with the same answer are equal, so the contracts of the calls state one result.
-- Assumes nothing.
use mathlib.Core.Path.{◌≡◌, refl, sym, ap, ◌∙◌}
use mathlib.Core.List.{List, [], ◌∷◌}
use Prim.Native.Nat.{ℕ, ◌≤◌}
use native.Mathlib.Omega.{arith}
use lib.ListN.{get_or}
use Rattle.std.specs.Prelude.{Option, Some, None, Result, Ok, Err}
use Rattle.std.specs.Option.{option_to_list}
use Rattle.model.specs.Answers.{Answer}
use Rattle.model.specs.Refusals.{number_of, answer_of}
use Rattle.model.specs.declared.refusal.Refusal.{Refusal}
use Rattle.model.specs.declared.refusal.Refusal.TheVariants as refusal
use Rattle.directory.specs.declared.Segment.{Segment}
use Rattle.rowset.specs.Calls.{checked_of, ranked_of, selected_of, filled_of, values_of, entry_values, entry_answer}
use Rattle.model.proofs.Answers.{same_number}

-- ---- a refusal is told from its number, which is not 0

abbrev refusal_from : ℕ → Refusal
refusal_from n =
    get_or
    (refusal.Coverage ∷ refusal.Coverage ∷ refusal.RowCount ∷ refusal.Order ∷ refusal.SeedEnds ∷ refusal.Workspace ∷ refusal.Limit ∷ refusal.Output ∷ refusal.Body ∷ refusal.Block ∷ refusal.Count ∷ refusal.Table ∷ [])
    n
    refusal.Record

told : (r : Refusal) → (refusal_from (number_of r) ≡ r) × (1 ≤ number_of r)
told refusal.Coverage = (refl, omega arith)
told refusal.RowCount = (refl, omega arith)
told refusal.Order = (refl, omega arith)
told refusal.SeedEnds = (refl, omega arith)
told refusal.Workspace = (refl, omega arith)
told refusal.Limit = (refl, omega arith)
told refusal.Output = (refl, omega arith)
told refusal.Body = (refl, omega arith)
told refusal.Block = (refl, omega arith)
told refusal.Count = (refl, omega arith)
told refusal.Table = (refl, omega arith)
told refusal.Record = (refl, omega arith)

pub same_refusal : (a b : Refusal) → number_of a ≡ number_of b → a ≡ b
same_refusal a b e = sym (told a).0 ∙ ap refusal_from e ∙ (told b).0

pub number_not : (r : Refusal) → number_of r ≡ 0 → ⊥
number_not r e = omega (arith, (told r).1)

-- ---- what is held is told from its values

module _ {A : Type 0} (values : A → List ℕ) (from : List ℕ → A) (back : (x : A) → from (values x) ≡ x) where
  pub answer_same : (a b : Result A Refusal) → answer_of values a ≡ answer_of values b → a ≡ b
  answer_same (Ok x) (Ok y) e = ap Ok (sym (back x) ∙ ap (λ (a : Answer). from a.values) e ∙ back y)
  answer_same (Ok x) (Err r) e = absurd (number_not r (sym (same_number e)))
  answer_same (Err r) (Ok x) e = absurd (number_not r (same_number e))
  answer_same (Err r) (Err s) e = ap Err (same_refusal r s (same_number e))

-- ---- of each call

abbrev pub first_of : List ℕ → ℕ
first_of vs = get_or vs 0 0

pub checked_same : (a b : Result ℕ Refusal) → checked_of a ≡ checked_of b → a ≡ b
unfolding checked_of
checked_same a b e = answer_same (λ n. n ∷ []) first_of (λ n. refl) a b e

abbrev option_from : List ℕ → Option ℕ
option_from [] = None
option_from (v ∷ vs) = Some v

option_back : (o : Option ℕ) → option_from (option_to_list o) ≡ o
option_back None = refl
option_back (Some v) = refl

pub ranked_same : (a b : Result (Option ℕ) Refusal) → ranked_of a ≡ ranked_of b → a ≡ b
unfolding ranked_of
ranked_same a b e = answer_same option_to_list option_from option_back a b e

pub selected_same : (a b : Result (Option ℕ) Refusal) → selected_of a ≡ selected_of b → a ≡ b
unfolding selected_of
selected_same a b e = answer_same option_to_list option_from option_back a b e

pub filled_same : (a b : Result ℕ Refusal) → filled_of a ≡ filled_of b → a ≡ b
unfolding filled_of
filled_same a b e = answer_same (λ n. n ∷ []) first_of (λ n. refl) a b e

-- a directory entry from its values
abbrev entry_from : List ℕ → Option Segment
entry_from [] = None
entry_from (v ∷ vs) =
    Some (record { start = v; span = get_or vs 0 0; count = get_or vs 1 0; ordinal = get_or vs 2 0; offset = get_or vs 3 0; length = get_or vs 4 0; tag = get_or vs 5 0 })

entry_back : (o : Option Segment) → entry_from (entry_values o) ≡ o
unfolding entry_values values_of
entry_back None = refl
entry_back (Some s) = refl

pub entry-same : (a b : Result (Option Segment) Refusal) → entry_answer a ≡ entry_answer b → a ≡ b
unfolding entry_answer
entry-same a b e = answer_same entry_values entry_from entry_back a b e
