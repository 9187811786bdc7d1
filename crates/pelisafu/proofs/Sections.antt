-- A section from C that is not coded is the empty set: what a call that reads it answers and leaves does not depend on its count, tag and bytes.
-- Assumes nothing.
use mathlib.Core.Path.{◌≡◌, refl, sym, ap, ◌∙◌}
use mathlib.Core.Logic.{⊎_elim}
use mathlib.Core.List.{List, [], ◌∷◌}
use Prim.Native.Nat.{ℕ}
use lib.Dec.{eqb}
use lib.ListN.{length, take}
use lib.Seq.{take-nil, drop-nil}
use borrow.Author.Tests.{eq-eqb}
use Rattle.model.specs.Tests.{pick}
use Rattle.model.specs.Lists.{has}
use Rattle.model.specs.Answers.{Answer}
use Rattle.model.proofs.Tests.{either, pick_true, pick_false}
use Rattle.planning.specs.Planning.{answered}
use Rattle.std.specs.Prelude.{None}
use Rattle.deletion.specs.Reading.{block_fits, section_number, deleted_of, check_answer, contains_answer, walk_answer, walk_left}
use Rattle.deletion.proofs.Walking.{walked_none}
use Rattle.pelisafu.specs.Shown.{section_of}

is_empty : (count tag : ℕ) → section_of 0 count tag ≡ None
unfolding section_of
is_empty count tag = pick_true _ _ (eq-eqb 0 0 refl)

-- the row count is tested, and the one value is 0
abbrev none : ℕ → ℕ → Answer
none rows limit = answered (pick {A = ℕ} (block_fits rows limit) 0 9) (0 ∷ [])

module _ (rows limit count tag : ℕ) (body : List ℕ) where
  pub none_counted : check_answer rows limit (section_of 0 count tag) body ≡ none rows limit
  unfolding check_answer section_number deleted_of
  none_counted = rw (is_empty count tag) (refl)

  pub none_contained : (ordinal : ℕ) → contains_answer rows limit (section_of 0 count tag) body ordinal ≡ none rows limit
  unfolding contains_answer section_number deleted_of has pick
  none_contained ordinal = rw (is_empty count tag) (refl)

  pub none_walked : (from room : ℕ) → walk_answer rows limit (section_of 0 count tag) body from room ≡ none rows limit
  unfolding walk_answer section_number deleted_of
  none_walked from room = rw (is_empty count tag) (ap (λ (ns : List ℕ). answered (pick {A = ℕ} (block_fits rows limit) 0 9) (length ns ∷ [])) (ap (take room) (drop-nil from) ∙ take-nil room))

  pub none_left : (from : ℕ) (old : List ℕ) → walk_left rows limit (section_of 0 count tag) body from old ≡ old
  unfolding walk_left section_number deleted_of
  none_left from old =
      rw (is_empty count tag)
      (⊎_elim (λ e. pick_true _ _ e ∙ sym (walked_none old from).written) (λ e. pick_false _ _ e)
      (either (eqb (section_number rows limit None body) 0)))
