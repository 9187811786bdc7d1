-- Of every tag: an accepted body names one rising list within its span, never an empty one, and no second body names it.
-- Assumes nothing.
use mathlib.Core.Path.{◌≡◌, sym, ◌∙◌}
use mathlib.Core.Bool.{true}
use mathlib.Core.Logic.{⊎_elim}
use mathlib.Core.List.{List}
use Prim.Native.Nat.{ℕ, ◌≤◌}
use native.Mathlib.Omega.{arith}
use lib.ListN.{length}
use Rattle.fields.specs.Le.{Bytes}
use Rattle.model.specs.Lists.{Rising}
use Rattle.model.proofs.Tests.{same_or_not}
use Rattle.model.proofs.Rising.{rising_wider}
use Rattle.single.specs.Single.{view_of, single_names}
use Rattle.single.proofs.Laid.{one_body}
use Rattle.single.proofs.Named.{single_parts, parts_count, whole_rising, whole_length}
use Rattle.segmented.proofs.Named.{directory_of, segmented_rising, segmented_length}
use Rattle.bodies.specs.Bodies.{accepts, names}
use Rattle.bodies.proofs.Laws.{names_nine, names_other, nine, other}

module _ (tag span : ℕ) (xs : List ℕ) (ok : accepts tag span xs ≡ true) (bytes : Bytes xs) where
  -- ---- one rising list, not empty

  pub names_rising : Rising 0 span (names tag span xs)
  unfolding single_names
  names_rising =
      ⊎_elim
      (λ e. rw (names_nine tag span xs e) (segmented_rising span xs (nine tag span xs ok e) bytes))
      (λ n.
      let parts = single_parts tag span xs (other tag span xs ok n) in
      rw (names_other tag span xs n) (rising_wider (omega arith) parts.inside (whole_rising (view_of tag span xs) span xs parts bytes)))
      (same_or_not tag 9)

  pub names_some : 1 ≤ length (names tag span xs)
  unfolding single_names
  names_some =
      ⊎_elim
      (λ e. rw (names_nine tag span xs e, segmented_length span xs (nine tag span xs ok e) bytes) (directory_of span xs (nine tag span xs ok e)).rows.some)
      (λ n.
      let parts = single_parts tag span xs (other tag span xs ok n) in
      rw (names_other tag span xs n, whole_length (view_of tag span xs) span xs parts bytes) (parts_count (view_of tag span xs) span xs parts).some)
      (same_or_not tag 9)

-- ---- T2: no second accepted body of a tag and span names the list, a bitmap's plain and trimmed forms held apart. A segmented body
-- states where its segments lie, so two of them may name one list

pub no_second_body : (tag span : ℕ) (xs ys : List ℕ) → (tag ≡ 9 → ⊥) → accepts tag span xs ≡ true → accepts tag span ys ≡ true → Bytes xs → Bytes ys
    → (tag ≡ 6 → (view_of tag span xs).trimmed ≡ (view_of tag span ys).trimmed) → names tag span xs ≡ names tag span ys → xs ≡ ys
no_second_body tag span xs ys n ok ok' b b' flag e =
    one_body tag span xs ys (other tag span xs ok n) (other tag span ys ok' n) b b' flag (sym (names_other tag span xs n) ∙ e ∙ names_other tag span ys n)
