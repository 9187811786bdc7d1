-- Fields of lists one after the other, and a table of numbers of w bytes each.
-- Assumes nothing.
use mathlib.Core.Path.{◌≡◌, refl, sym, ◌∙◌}
use mathlib.Core.Logic.{⊎_elim}
use mathlib.Core.List.{List, [], ◌++◌}
use Prim.Native.Nat.{ℕ, zero, suc, ◌+◌, ◌*◌, ◌%◌, ◌^◌, ◌<◌, ◌≤◌}
use native.Mathlib.Nat.{add-zero, add_assoc, suc-mul, mul-le-mul_right, mod-eq_of_lt}
use native.Mathlib.Omega.{arith}
use lib.ListN.{length, take, drop, length-append, get_or-append}
use lib.Seq.{get_or-append-add, take-add}
use Rattle.model.specs.Tests.{flat}
use Rattle.model.proofs.Tests.{last_or_before}
use Rattle.fields.specs.Le.{le, digits}
use Rattle.fields.proofs.Laws.{le_same, le-digits, length_digits}

-- ---- in lists one after the other

-- a field inside the first list, and one in the second
pub le_first : (n : ℕ) (us vs : List ℕ) (at : ℕ) → at + n ≤ length us → le n (us ++ vs) at ≡ le n us at
le_first n us vs at h = le_same n (us ++ vs) us at at (λ i l. get_or-append us vs 0 (at + i) (omega arith))

pub le_second : (n : ℕ) (us vs : List ℕ) (k at : ℕ) → length us ≡ k → le n (us ++ vs) (k + at) ≡ le n vs at
le_second n us vs k at e =
    le_same n (us ++ vs) vs (k + at) at (λ i l. rw (← e, add_assoc) (get_or-append-add us vs (at + i) 0))

-- a number that stands between others
pub le_behind : (n v at : ℕ) (us vs : List ℕ) → length us ≡ at → le n (us ++ digits n v ++ vs) at ≡ v % 256 ^ n
le_behind n v at us vs e =
    le_first n (us ++ digits n v) vs at (rw length-append (omega (arith, length_digits n v)))
    ∙ rw add-zero at (le_second n us (digits n v) at 0 e) ∙ le-digits n v

-- the first of several numbers, and what follows it
pub le_head : (n v : ℕ) (vs : List ℕ) → v < 256 ^ n → le n (digits n v ++ vs) 0 ≡ v
le_head n v vs h = le_behind n v 0 [] vs refl ∙ mod-eq_of_lt h

pub le_next : (n k v : ℕ) (vs : List ℕ) (at : ℕ) → le n (digits k v ++ vs) (k + at) ≡ le n vs at
le_next n k v vs at = le_second n (digits k v) vs k at (length_digits k v)

-- ---- the numbers v 0, v 1, .. of w bytes each

module _ (w : ℕ) (v : ℕ → ℕ) where
  abbrev pub table : ℕ → List ℕ
  table n = flat (λ (g : ℕ). digits w (v g)) n

  pub table_length : (n : ℕ) → length (table n) ≡ n * w
  unfolding flat
  table_length zero = omega arith
  table_length (suc n) = length-append (table n) (digits w (v n)) ∙ rw (table_length n, length_digits, suc-mul n w)

  pub table_at : (n g : ℕ) → g < n → le w (table n) (g * w) ≡ v g % 256 ^ w
  unfolding flat
  table_at zero g h = absurd (omega arith)
  table_at (suc n) g h =
      ⊎_elim
      (λ (q : g ≡ n). rw q (rw add-zero at (le_second w (table n) (digits w (v n)) (n * w) 0 (table_length n)) ∙ le-digits w (v n)))
      (λ (l : g < n).
      let m : suc g * w ≤ n * w = mul-le-mul_right w l in
      let r : g * w + w ≤ length (table n) = rw (table_length n, ← suc-mul) m in
      le_first w (table n) (digits w (v n)) (g * w) r ∙ table_at n g l)
      (last_or_before h)

-- a list cut into pieces of w
pub pieces : {A : Type 0} (w n : ℕ) (xs : List A) → flat (λ (g : ℕ). take w (drop (g * w) xs)) n ≡ take (n * w) xs
unfolding flat
pieces w zero xs = let e : 0 * w ≡ 0 = omega arith in rw e
pieces w (suc n) xs = rw (pieces w n xs, suc-mul n w) (sym (take-add (n * w) w xs))
