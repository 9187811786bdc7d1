-- Ranges of positions: length, elements, place.
-- Assumes nothing.
use mathlib.Core.Path.{◌≡◌, refl, sym, ap, ◌∙◌}
use mathlib.Core.Bool.{true}
use mathlib.Core.Logic.{⊎_elim}
use mathlib.Core.List.{List, ◌++◌}
use Prim.Native.Nat.{ℕ, zero, suc, ◌+◌, ◌-◌, ◌<◌, ◌≤◌, min}
use native.Mathlib.Nat.{zero-add, add-zero, suc-add, add-suc, sub-zero}
use native.Mathlib.Omega.{arith}
use lib.Dec.{ltb}
use lib.ListN.{length, get_or, drop}
use borrow.Author.Tests.{lt-ltb, le-ltb}
use Rattle.model.specs.Lists.{Rising, none, more, below, has, range}
use Rattle.model.proofs.Tests.{order}
use Rattle.model.proofs.Rising.{rising_room}
use Rattle.model.proofs.Standing.{below_under, below_past, below_none, has_outside, has_at}

pub length-range : (a n : ℕ) → length (range a n) ≡ n
unfolding range
length-range a zero = refl
length-range a (suc n) = ap suc (length-range (suc a) n)

pub get_or-range : (a n k : ℕ) → k < n → get_or (range a n) k 0 ≡ a + k
unfolding range
get_or-range a zero k h = absurd (omega arith)
get_or-range a (suc n) zero h = sym (add-zero a)
get_or-range a (suc n) (suc k) h = get_or-range (suc a) n k (omega arith) ∙ omega arith

pub range_rising : (a n : ℕ) → Rising a (a + n) (range a n)
unfolding range
range_rising a zero = none
range_rising a (suc n) = more {a = a} {b = a + suc n} {x = a} (omega arith) (omega arith) (rw (suc-add, ← add-suc) at (range_rising (suc a) n))

pub range-append : (a m n : ℕ) → range a (m + n) ≡ range a m ++ range (a + m) n
unfolding range
range-append a zero n = rw (zero-add, add-zero)
range-append a (suc m) n = rw (suc-add m n, range-append (suc a) m n, suc-add, add-suc)

pub range-drop : (a n k : ℕ) → drop k (range a n) ≡ range (a + k) (n - k)
unfolding range
range-drop a n zero = rw (add-zero, sub-zero)
range-drop a zero (suc k) = let e : 0 - suc k ≡ 0 = omega arith in rw e
range-drop a (suc n) (suc k) =
    let e : suc n - suc k ≡ n - k = omega arith in
    let f : suc a + k ≡ a + suc k = omega arith in
    rw (e, range-drop (suc a) n k, f)

pub below-range : (a n p : ℕ) → below (range a n) p ≡ min (p - a) n
unfolding range below
below-range a zero p = omega arith
below-range a (suc n) p =
    ⊎_elim
    (λ l. below_under a (range (suc a) n) p l ∙ ap suc (below-range (suc a) n p) ∙ omega arith)
    (λ g. below_past a (range (suc a) n) p g ∙ below_none (range_rising (suc a) n) p (omega arith) ∙ omega arith)
    (order a p)

pub has-range : (a n p : ℕ) → a ≤ p → p < a + n → has (range a n) p ≡ true
has-range a n p l h =
    let e : a + (p - a) ≡ p = omega arith in
    let i : p - a < n = omega arith in
    rw (get_or-range a n (p - a) i, e) at (has_at (range a n) (p - a) (omega (arith, length-range a n)))

-- a position in a range that starts at it or before
pub has_past : (a n q : ℕ) → a ≤ q → has (range a n) q ≡ ltb (q - a) n
has_past a n q h =
    ⊎_elim
    (λ l. has-range a n q h (omega arith) ∙ sym (lt-ltb (q - a) n l))
    (λ g. has_outside (range_rising a n) q (λ o. omega (arith, o.1)) ∙ sym (le-ltb (q - a) n g))
    (order (q - a) n)

-- a rising list that fills its room is the range
pub rising_full : {a b : ℕ} {xs : List ℕ} → Rising a b xs → a + length xs ≡ b → range a (length xs) ≡ xs
unfolding range
rising_full none e = refl
rising_full {a} {b} (more {x = x} {xs = xs} l h r) e =
    let q : x ≡ a = omega (arith, rising_room h r) in
    let rest : range (suc x) (length xs) ≡ xs = rising_full r (omega arith) in
    rw (← q, rest)
