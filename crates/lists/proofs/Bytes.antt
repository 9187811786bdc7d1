-- The bytes of a list of w-byte numbers: their length, the numbers read back, and the bytes told from the numbers.
-- Assumes nothing.
use Rattle.std.proofs.Common.{◌≡◌, ℕ, zero, suc, ◌+◌, ◌*◌, ◌%◌, ◌^◌, ◌<◌, ◌≤◌, List, [], ◌∷◌, ◌++◌, length, get_or, take, drop, sym, refl, ◌∙◌, append_assoc, append-nil, suc-mul, zero-mul, arith, length-append, take-add}
use Rattle.fields.specs.Le.{Bytes, digits}
use Rattle.fields.proofs.Laws.{length_digits, digits_le}
use Rattle.fields.proofs.Tables.{le_behind}
use Rattle.model.specs.Tests.{tabulate}
use Rattle.search.proofs.Entries.{entry_at, entry_behind}
use Rattle.lists.specs.Lists.{list_layout, item}

module _ (w : ℕ) where
  pub length_layout : (xs : List ℕ) → length (list_layout w xs) ≡ length xs * w
  unfolding list_layout
  length_layout [] = sym (zero-mul w)
  length_layout (x ∷ xs) = rw suc-mul (length-append (digits w x) (list_layout w xs) ∙ omega (arith, length_digits w x, length_layout xs))

  pub layout_append : (xs ys : List ℕ) → list_layout w (xs ++ ys) ≡ list_layout w xs ++ list_layout w ys
  unfolding list_layout
  layout_append [] ys = refl
  layout_append (x ∷ xs) ys = rw (layout_append xs ys, append_assoc)

  -- ---- what was put is read back

  pub layout_item : (xs : List ℕ) (i : ℕ) → i < length xs → item w (list_layout w xs) i ≡ get_or xs i 0 % 256 ^ w
  unfolding list_layout
  layout_item [] i h = absurd (omega arith)
  layout_item (x ∷ xs) zero h = rw (← entry_at, zero-mul) (le_behind w x 0 [] (list_layout w xs) refl)
  layout_item (x ∷ xs) (suc i) h = entry_behind w 0 w (digits w x) (list_layout w xs) i (length_digits w x) ∙ layout_item xs i (omega arith)

  -- ---- the bytes are those of the numbers read

  pub layout_read : (xs : List ℕ) → Bytes xs → (n : ℕ) → n * w ≤ length xs → list_layout w (tabulate (item w xs) n) ≡ take (n * w) xs
  unfolding list_layout tabulate
  layout_read xs b zero h = rw zero-mul
  layout_read xs b (suc n) h =
      let e : suc n * w ≡ n * w + w = suc-mul n w in
      let front : list_layout w (tabulate (item w xs) n) ≡ take (n * w) xs = layout_read xs b n (omega arith) in
      let last : digits w (item w xs n) ≡ take w (drop (n * w) xs) = rw (← entry_at w xs w n) (digits_le w xs (n * w) b (omega arith)) in
      rw (layout_append (tabulate (item w xs) n) (item w xs n ∷ []), append-nil, front, last, e, take-add)
