-- Place and select under append and under a shift.
-- Assumes nothing.
use mathlib.Core.Path.{◌≡◌, refl, sym, ap, ◌∙◌}
use mathlib.Core.Bool.{Bool, true, false}
use mathlib.Core.Logic.{⊎_elim}
use mathlib.Core.List.{List, [], ◌∷◌, ◌++◌}
use Prim.Native.Nat.{ℕ, zero, suc, ◌+◌, ◌-◌, ◌<◌, ◌≤◌}
use native.Mathlib.Nat.{zero-add, suc-add, add-suc}
use native.Mathlib.Omega.{arith}
use lib.ListN.{length, get_or, drop}
use lib.Seq.{get_or-append-add}
use Rattle.model.specs.Tests.{pick}
use Rattle.model.specs.Lists.{Rising, none, more, below, has, place_of, shift}
use Rattle.model.proofs.Tests.{order, pick_true, pick_false, same_or_not}
use Rattle.model.proofs.Standing.{below_under, below_past, has_here, has_later, has_outside}

-- ---- append

pub below-append : (xs ys : List ℕ) (p : ℕ) → below (xs ++ ys) p ≡ below xs p + below ys p
unfolding below
below-append [] ys p = sym (zero-add (below ys p))
below-append (x ∷ xs) ys p =
    ⊎_elim
    (λ l. rw (below_under x (xs ++ ys) p l, below_under x xs p l, suc-add) (ap suc (below-append xs ys p)))
    (λ g. rw (below_past x (xs ++ ys) p g, below_past x xs p g) (below-append xs ys p))
    (order x p)

pub has-append : (xs ys : List ℕ) (p : ℕ) → has (xs ++ ys) p ≡ pick (has xs p) true (has ys p)
unfolding has
has-append [] ys p = sym (pick_false _ _ refl)
has-append (x ∷ xs) ys p =
    ⊎_elim
    (λ q. rw (has_here x (xs ++ ys) p q, has_here x xs p q) (sym (pick_true _ _ refl)))
    (λ n. rw (has_later x (xs ++ ys) p n, has_later x xs p n) (has-append xs ys p))
    (same_or_not x p)

pick_self : (t : Bool) → pick t true false ≡ t
unfolding pick
pick_self true = refl
pick_self false = refl

pub has_left : (xs ys : List ℕ) (p : ℕ) → has ys p ≡ false → has (xs ++ ys) p ≡ has xs p
has_left xs ys p e = has-append xs ys p ∙ rw e (pick_self (has xs p))

pub has_right : (xs ys : List ℕ) (p : ℕ) → has xs p ≡ false → has (xs ++ ys) p ≡ has ys p
has_right xs ys p e = has-append xs ys p ∙ pick_false _ _ e

-- the k-th of the second list
pub get_or_second : (xs ys : List ℕ) (k : ℕ) → length xs ≤ k → get_or (xs ++ ys) k 0 ≡ get_or ys (k - length xs) 0
get_or_second xs ys k h =
    let e : k ≡ length xs + (k - length xs) = omega arith in
    ap (λ (n : ℕ). get_or (xs ++ ys) n 0) e ∙ get_or-append-add xs ys (k - length xs) 0

-- of two parts that meet at m, only the second holds positions from m on
pub has_second : {a m : ℕ} {xs : List ℕ} (ys : List ℕ) → Rising a m xs → (p : ℕ) → m ≤ p → has (xs ++ ys) p ≡ has ys p
has_second {xs = xs} ys r p h = has_right xs ys p (has_outside r p (λ w. omega (arith, w.1)))

-- ---- shift

pub length_shift : (b : ℕ) (xs : List ℕ) → length (shift b xs) ≡ length xs
unfolding shift
length_shift b [] = refl
length_shift b (x ∷ xs) = ap suc (length_shift b xs)

pub get_or-shift : (b : ℕ) (xs : List ℕ) (k : ℕ) → k < length xs → get_or (shift b xs) k 0 ≡ b + get_or xs k 0
unfolding shift
get_or-shift b [] k h = absurd (omega arith)
get_or-shift b (x ∷ xs) zero h = refl
get_or-shift b (x ∷ xs) (suc k) h = get_or-shift b xs k (omega arith)

pub shift_rising : {a c : ℕ} {xs : List ℕ} (b : ℕ) → Rising a c xs → Rising (b + a) (b + c) (shift b xs)
unfolding shift
shift_rising b none = none
shift_rising {a} {c} b (more {x = x} l h r) = more {a = b + a} {b = b + c} {x = b + x} (omega arith) (omega arith) (rw (add-suc b x) at (shift_rising b r))

pub shift_zero : (xs : List ℕ) → shift 0 xs ≡ xs
unfolding shift
shift_zero [] = refl
shift_zero (x ∷ xs) = rw (shift_zero xs, zero-add)

pub shift-drop : (b n : ℕ) (xs : List ℕ) → shift b (drop n xs) ≡ drop n (shift b xs)
unfolding shift
shift-drop b zero xs = refl
shift-drop b (suc n) [] = refl
shift-drop b (suc n) (x ∷ xs) = shift-drop b n xs

pub below-shift : (b : ℕ) (xs : List ℕ) (p : ℕ) → below (shift b xs) (b + p) ≡ below xs p
unfolding below shift
below-shift b [] p = refl
below-shift b (x ∷ xs) p =
    ⊎_elim
    (λ l. below_under (b + x) (shift b xs) (b + p) (omega arith) ∙ ap suc (below-shift b xs p) ∙ sym (below_under x xs p l))
    (λ g. below_past (b + x) (shift b xs) (b + p) (omega arith) ∙ below-shift b xs p ∙ sym (below_past x xs p g))
    (order x p)

pub has-shift : (b : ℕ) (xs : List ℕ) (p : ℕ) → has (shift b xs) (b + p) ≡ has xs p
unfolding has shift
has-shift b [] p = refl
has-shift b (x ∷ xs) p =
    ⊎_elim
    (λ (q : x ≡ p). has_here (b + x) (shift b xs) (b + p) (rw q) ∙ sym (has_here x xs p q))
    (λ n. has_later (b + x) (shift b xs) (b + p) (λ e. n (omega arith)) ∙ has-shift b xs p ∙ sym (has_later x xs p n))
    (same_or_not x p)

pub place_shift : (b : ℕ) (xs : List ℕ) (p : ℕ) → place_of (shift b xs) (b + p) ≡ place_of xs p
unfolding place_of
place_shift b xs p = rw (below-shift, has-shift)

-- asked by the position of the whole
pub below_shifted : (b : ℕ) (xs : List ℕ) (p : ℕ) → b ≤ p → below (shift b xs) p ≡ below xs (p - b)
below_shifted b xs p h = let e : b + (p - b) ≡ p = omega arith in rw e at (below-shift b xs (p - b))

pub has_shifted : (b : ℕ) (xs : List ℕ) (p : ℕ) → b ≤ p → has (shift b xs) p ≡ has xs (p - b)
has_shifted b xs p h = let e : b + (p - b) ≡ p = omega arith in rw e at (has-shift b xs (p - b))
