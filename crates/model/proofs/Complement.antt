-- The positions that a rising list leaves out: members, length, place and select, and the complement of the complement.
-- Assumes nothing.
use mathlib.Core.Path.{◌≡◌, refl, sym, ap, ◌∙◌}
use mathlib.Core.Bool.{Bool, true, false, not}
use mathlib.Core.Logic.{◌⊎◌, ⊎_elim, inl, inr}
use mathlib.Core.List.{List, ◌∷◌, ◌++◌}
use Prim.Native.Nat.{ℕ, zero, suc, ◌+◌, ◌-◌, ◌<◌, ◌≤◌}
use native.Mathlib.Nat.{add-zero}
use native.Mathlib.Omega.{arith}
use lib.ListN.{length, get_or, drop, length-append}
use lib.Seq.{drop-append-le, drop-append-add}
use Rattle.model.specs.Lists.{Rising, none, more, below, has, range, complement}
use Rattle.model.proofs.Tests.{order, same_or_not, either, strictly}
use Rattle.model.proofs.Rising.{rising_append, rising_wider, rising_room}
use Rattle.model.proofs.Standing.{below_none, below_under, below_past, has_here, has_later, has_outside, has_index, same_members, below_cut}
use Rattle.model.proofs.Append.{below-append, has_left, has_right}
use Rattle.model.proofs.Ranges.{length-range, range_rising, range-drop, below-range, has-range}

-- a range that ends at c
upto : (a c : ℕ) → a ≤ c → Rising a c (range a (c - a))
upto a c h = let e : a + (c - a) ≡ c = omega arith in rw e at (range_rising a (c - a))

pub complement_rising : {a b : ℕ} {xs : List ℕ} → a ≤ b → Rising a b xs → Rising a b (complement a b xs)
unfolding complement
complement_rising {a} {b} h none = upto a b h
complement_rising {a} {b} h (more {x = x} l q r) =
    rising_append l (omega arith) (upto a x l) (rising_wider (omega arith) (omega arith) (complement_rising q r))

pub complement-length : {a b : ℕ} {xs : List ℕ} → a ≤ b → Rising a b xs → length xs + length (complement a b xs) ≡ b - a
unfolding complement
complement-length {a} {b} h none = omega (arith, length-range a (b - a))
complement-length {a} {b} h (more {x = x} {xs = xs} l q r) =
    omega (arith, length-append (range a (x - a)) (complement (suc x) b xs), length-range a (x - a), complement-length q r)

-- of the positions below p, those in the list and those left out are all
pub complement-below : {a b : ℕ} {xs : List ℕ} → a ≤ b → Rising a b xs → (p : ℕ) → a ≤ p → p ≤ b → below xs p + below (complement a b xs) p ≡ p - a
unfolding complement below
complement-below {a} {b} h none p l u = omega (arith, below-range a (b - a) p)
complement-below {a} {b} h (more {x = x} {xs = xs} d q r) p l u =
    ⊎_elim
    (λ v. omega (arith, below_under x xs p v, below-append (range a (x - a)) (complement (suc x) b xs) p, below-range a (x - a) p, complement-below q r p v u))
    (λ g. omega (arith, below_past x xs p g, below_none r p (omega arith), below-append (range a (x - a)) (complement (suc x) b xs) p, below-range a (x - a) p, below_none (complement_rising q r) p (omega arith)))
    (order x p)

pub complement-has : {a b : ℕ} {xs : List ℕ} → a ≤ b → Rising a b xs → (p : ℕ) → a ≤ p → p < b → has (complement a b xs) p ≡ not (has xs p)
unfolding complement has
complement-has {a} {b} h none p l u = has-range a (b - a) p l (omega arith)
complement-has {a} {b} h (more {x = x} {xs = xs} d q r) p l u =
    ⊎_elim
    (λ (v : p < x).
    let out : has (complement (suc x) b xs) p ≡ false = has_outside (complement_rising q r) p (λ w. omega (arith, w.0)) in
    let in_list : has (x ∷ xs) p ≡ false = has_later x xs p (λ e. omega arith) ∙ has_outside r p (λ w. omega (arith, w.0)) in
    has_left (range a (x - a)) (complement (suc x) b xs) p out ∙ has-range a (x - a) p l (omega arith) ∙ rw in_list)
    (λ (g : x ≤ p).
    let past : has (range a (x - a)) p ≡ false = has_outside (upto a x d) p (λ w. omega (arith, w.1)) in
    has_right (range a (x - a)) (complement (suc x) b xs) p past
    ∙ ⊎_elim
    (λ (e : x ≡ p). has_outside (complement_rising q r) p (λ w. omega (arith, w.0)) ∙ rw (has_here x xs p e))
    (λ n. complement-has q r p (strictly g n) u ∙ rw (has_later x xs p n))
    (same_or_not x p))
    (order p x)

not_not : (t : Bool) → not (not t) ≡ t
not_not true = refl
not_not false = refl

-- inside [a, b), below it or from b on
sides : (a b p : ℕ) → ((a ≤ p) × (p < b)) ⊎ ((a ≤ p) × (p < b) → ⊥)
sides a b p =
    ⊎_elim
    (λ u. ⊎_elim (λ l. inr (λ w. omega (arith, w.0))) (λ g. inl (g, u)) (order p a))
    (λ v. inr (λ w. omega (arith, w.1)))
    (order p b)

-- the complement of the complement
pub complement_twice : {a b : ℕ} {xs : List ℕ} → a ≤ b → Rising a b xs → complement a b (complement a b xs) ≡ xs
complement_twice {a} {b} {xs} h r =
    let c : Rising a b (complement a b xs) = complement_rising h r in
    same_members (complement_rising h c) r
    (λ p.
    ⊎_elim
    (λ w. complement-has h c p w.0 w.1 ∙ ap not (complement-has h r p w.0 w.1) ∙ not_not (has xs p))
    (λ out. has_outside (complement_rising h c) p out ∙ sym (has_outside r p out))
    (sides a b p))

-- select: where j of the list are at most a + k + their index, and no more, the k-th that is left out is a + k + j
pub complement_select : {a b : ℕ} {xs : List ℕ} → a ≤ b → Rising a b xs → (k j : ℕ) → k < length (complement a b xs) → j ≤ length xs
    → ((i : ℕ) → i < j → get_or xs i 0 ≤ a + k + i) → ((i : ℕ) → j ≤ i → i < length xs → a + k + i < get_or xs i 0)
    → get_or (complement a b xs) k 0 ≡ a + k + j
complement_select {a} {b} {xs} h r k j q m lo hi =
    let p = a + k + j in
    let size = complement-length h r in
    let inside : p < b = omega (arith, size, rising_room h r) in
    let absent : has xs p ≡ false = ⊎_elim (λ e. absurd (nowhere (has_index r p e))) (λ e. e) (either (has xs p)) in
    let here : has (complement a b xs) p ≡ true = complement-has h r p (omega arith) inside ∙ rw absent in
    let before : below xs p ≡ j = below_cut xs p j m (λ i l. omega (arith, lo i l)) (λ i g l. omega (arith, hi i g l)) in
    let at : below (complement a b xs) p ≡ k = omega (arith, complement-below h r p (omega arith) (omega arith)) in
    rw at at (has_index (complement_rising h r) p here).1
  where
    nowhere : (below xs (a + k + j) < length xs) × (get_or xs (below xs (a + k + j)) 0 ≡ a + k + j) → ⊥
    nowhere w = ⊎_elim (λ l. omega (arith, lo (below xs (a + k + j)) l, w.1)) (λ g. omega (arith, hi (below xs (a + k + j)) g w.0, w.1)) (order (below xs (a + k + j)) j)

-- where j of the list are at most a + k + their index, and no more: what stands from the k-th on are the positions from a + k + j on
pub complement-from : {a b : ℕ} {xs : List ℕ} → Rising a b xs → (k j : ℕ) → j ≤ length xs
    → ((i : ℕ) → i < j → get_or xs i 0 ≤ a + k + i) → ((i : ℕ) → j ≤ i → i < length xs → a + k + i < get_or xs i 0)
    → drop k (complement a b xs) ≡ complement (a + k + j) b (drop j xs)
unfolding complement
complement-from {a} {b} none k zero h lo hi = let e : b - a - k ≡ b - (a + k) = omega arith in rw (range-drop, add-zero, e)
complement-from none k (suc j) h lo hi = absurd (omega arith)
complement-from {a} {b} (more {x = x} {xs = xs} l u r) k zero h lo hi =
    let past : a + k + 0 < x = hi 0 (omega arith) (omega arith) in
    let e : x - a - k ≡ x - (a + k) = omega arith in
    let inside : k ≤ length (range a (x - a)) = omega (arith, length-range a (x - a)) in
    rw (drop-append-le k (range a (x - a)) (complement (suc x) b xs) inside, range-drop, add-zero, e)
complement-from {a} {b} (more {x = x} {xs = xs} l u r) k (suc j) h lo hi =
    let first : x ≤ a + k + 0 = lo 0 (omega arith) in
    let k' = k - (x - a) in
    let e : k ≡ length (range a (x - a)) + k' = omega (arith, length-range a (x - a)) in
    let f : suc x + k' + j ≡ a + k + suc j = omega arith in
    let ih : drop k' (complement (suc x) b xs) ≡ complement (suc x + k' + j) b (drop j xs) = complement-from r k' j (omega arith) (λ i m. omega (arith, lo (suc i) (omega arith))) (λ i g m. omega (arith, hi (suc i) (omega arith) (omega arith))) in
    ap (λ (n : ℕ). drop n (range a (x - a) ++ complement (suc x) b xs)) e ∙ drop-append-add (range a (x - a)) (complement (suc x) b xs) k' ∙ ih ∙ rw f
