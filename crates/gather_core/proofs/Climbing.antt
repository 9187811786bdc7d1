-- Rows that rise: the first and the rest of them, and their two ends.
-- Assumes nothing.
use Rattle.std.proofs.Common.{◌≡◌, ℕ, zero, suc, ◌+◌, ◌-◌, ◌<◌, ◌≤◌, Bool, true, false, ltb, List, ◌∷◌, length, get_or, sym, ◌∙◌, suc-add, add-one, arith, ltb-true}
use Rattle.std.specs.List.{IsAllAdjacentAnswer}
use Rattle.model.specs.Tests.{all}
use Rattle.model.proofs.Tests.{all_at, all_from, all_stop}
use Rattle.gather_core.specs.Gather.{up_at, rises, first_of, last_of}

pub rises_none : (rows : List ℕ) → length rows ≡ 0 → rises rows ≡ true
unfolding rises all
rises_none rows e = rw e

-- each and the next in order, as std's test of a slice finds it
pub sorted_rises : (rows : List ℕ) (r : Bool) → IsAllAdjacentAnswer (λ x y b. b ≡ ltb x y) rows r → r ≡ rises rows
unfolding rises up_at
sorted_rises rows true h = sym (all_from (up_at rows) (length rows - 1) (λ i l. sym (h i 0 (omega arith))))
sorted_rises rows false (k, l, e) = sym (all_stop (up_at rows) (length rows - 1) k (omega arith) (sym (e 0)))

-- ---- a row in front of others

module _ (x : ℕ) (rows : List ℕ) where
  up_rest : (i : ℕ) → up_at (x ∷ rows) (suc i) ≡ up_at rows i
  unfolding up_at
  up_rest i = rw suc-add

  each : rises (x ∷ rows) ≡ true → (i : ℕ) → i < length rows → up_at (x ∷ rows) i ≡ true
  unfolding rises
  each e i h = all_at (up_at (x ∷ rows)) (length (x ∷ rows) - 1) e i (omega arith)

  pub rises_first : 0 < length rows → rises (x ∷ rows) ≡ true → ltb x (first_of rows) ≡ true
  unfolding up_at
  rises_first some e = each e 0 some

  pub rises_rest : rises (x ∷ rows) ≡ true → rises rows ≡ true
  unfolding rises
  rises_rest e = all_from (up_at rows) (length rows - 1) (λ i h. sym (up_rest i) ∙ each e (suc i) (omega arith))

  pub rises_more : ltb x (first_of rows) ≡ true → rises rows ≡ true → rises (x ∷ rows) ≡ true
  unfolding rises up_at
  rises_more l e = all_from (up_at (x ∷ rows)) (length (x ∷ rows) - 1) at
    where
      at : (i : ℕ) → i < length (x ∷ rows) - 1 → up_at (x ∷ rows) i ≡ true
      at zero h = l
      at (suc i) h = up_rest i ∙ all_at (up_at rows) (length rows - 1) e i (omega arith)

-- ---- the two ends

pub rises_ends : (rows : List ℕ) → rises rows ≡ true → first_of rows ≤ last_of rows
unfolding rises up_at
rises_ends rows e = upto (length rows - 1) (omega arith)
  where
    upto : (i : ℕ) → i ≤ length rows - 1 → first_of rows ≤ get_or rows i 0
    upto zero h = omega arith
    upto (suc i) h = omega (arith, upto i (omega arith), rw (add-one i) at (ltb-true (get_or rows i 0) (get_or rows (i + 1) 0) (all_at (up_at rows) (length rows - 1) e i (omega arith))))
