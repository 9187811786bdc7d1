-- The front of a list and what is left of it: of two lists one after the other, of a lent slice, of a table, of a range.
-- Assumes nothing.
use mathlib.Core.Path.{◌≡◌, sym, ap, ◌∙◌}
use mathlib.Core.List.{List, [], ◌∷◌, ◌++◌, append-nil}
use Prim.Native.Nat.{ℕ, zero, suc, ◌+◌, ◌-◌, ◌<◌, min}
use native.Mathlib.Nat.{add-zero, le_of_eq}
use native.Mathlib.Numerals.{add-one}
use native.Mathlib.Omega.{arith}
use lib.ListN.{length, get_or, take, drop, length-take, length-drop, drop_of_length-le}
use lib.Seq.{ext_get_or, get_or-take, get_or-drop, drop-cons, drop-drop, drop-append_seam, take_all}
use borrow.Rule.Slice.PartMut.{put_mid}
use Rattle.model.specs.Tests.{tabulate}
use Rattle.model.specs.Lists.{range, walk_of}
use Rattle.model.proofs.Tests.{length-tabulate, get_or-tabulate, tabulate-same}
use Rattle.model.proofs.Ranges.{length-range, get_or-range}

-- as many as fit of one list after the other
pub take-append : {A : Type 0} (m : ℕ) (us vs : List A) → take m (us ++ vs) ≡ take m us ++ take (m - length us) vs
take-append zero us vs = let e : 0 - length us ≡ 0 = omega arith in rw e
take-append (suc m) [] vs = let e : suc m - 0 ≡ suc m = omega arith in rw e
take-append (suc m) (u ∷ us) vs = let e : suc m - suc (length us) ≡ m - length us = omega arith in rw (e, take-append m us vs)

-- what is left from an index on is what stands there and the rest
pub drop_step : {A : Type 0} (xs : List A) (i : ℕ) (d : A) → i < length xs → drop i xs ≡ get_or xs i d ∷ drop (i + 1) xs
drop_step xs i d h = rw (add-one i, drop-cons xs i d h)

-- what is left behind the next ones
pub drop_past : {A : Type 0} (xs vs rest : List A) (n : ℕ) → drop n xs ≡ vs ++ rest → drop (n + length vs) xs ≡ rest
drop_past xs vs rest n e = rw (← drop-drop (length vs) n xs, e) (drop-append_seam vs rest)

-- ---- the part of a slice from a on: `xs[a..]` as it is lent, and as it comes back

pub tail_is : (a : ℕ) (xs : List ℕ) → take (length xs - a) (drop a xs) ≡ drop a xs
tail_is a xs = take_all (length xs - a) (drop a xs) (omega (arith, length-drop a xs))

pub tail_put : (a : ℕ) (xs ys : List ℕ) → put_mid a (length xs - a) xs ys ≡ take a xs ++ ys
tail_put a xs ys =
    let none : drop (length xs - a) (drop a xs) ≡ [] = drop_of_length-le (drop a xs) (le_of_eq (length-drop a xs)) in
    ap (λ (t : List ℕ). take a xs ++ (ys ++ t)) none ∙ ap (λ (t : List ℕ). take a xs ++ t) (append-nil ys)

-- ---- the walk of a table, and of a range

pub walk_tabulate : (f : ℕ → ℕ) (n k m : ℕ) {r : ℕ} → r ≡ min m (n - k) → walk_of (tabulate f n) k m ≡ tabulate (λ (j : ℕ). f (k + j)) r
walk_tabulate f n k m {r} e =
    let g : ℕ → ℕ = λ j. f (k + j) in
    let size : length (take m (drop k (tabulate f n))) ≡ r = simp (length-take, length-drop, length-tabulate) (sym e) in
    ext_get_or 0 (take m (drop k (tabulate f n))) (tabulate g r) (size ∙ sym (length-tabulate g r))
    (λ i l.
    get_or-take m (drop k (tabulate f n)) i 0 (omega arith) ∙ get_or-drop k (tabulate f n) i 0 ∙ get_or-tabulate f n (k + i) 0 (omega arith) ∙ sym (get_or-tabulate g r i 0 (omega arith)))

pub range-tabulate : (a n : ℕ) → range a n ≡ tabulate (λ (j : ℕ). a + j) n
range-tabulate a n =
    let g : ℕ → ℕ = λ j. a + j in
    let size = length-range a n in
    ext_get_or 0 (range a n) (tabulate g n) (length-range a n ∙ sym (length-tabulate g n))
    (λ i l. get_or-range a n i (omega arith) ∙ sym (get_or-tabulate g n i 0 (omega arith)))

pub walk_range : (a n k m : ℕ) {r : ℕ} → r ≡ min m (n - k) → walk_of (range a n) k m ≡ range (a + k) r
walk_range a n k m {r} e =
    rw (range-tabulate a n, range-tabulate (a + k) r)
    (walk_tabulate (λ (j : ℕ). a + j) n k m e ∙ tabulate-same (λ (j : ℕ). a + (k + j)) (λ (j : ℕ). a + k + j) r (λ i l. omega arith))

pub take_range : (r a n : ℕ) → take r (range a n) ≡ range a (min n r)
take_range r a n = rw add-zero at (walk_range a n 0 r {r = min n r} (omega arith))
