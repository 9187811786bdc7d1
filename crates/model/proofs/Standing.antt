-- Where a position stands in a list, and select and rank as each other's inverse on a rising list.
-- Assumes nothing.
use mathlib.Core.Path.{◌≡◌, refl, sym, ap, ap₂, ◌∙◌}
use mathlib.Core.Bool.{true, false, false≢true}
use mathlib.Core.Logic.{⊎_elim}
use mathlib.Core.List.{List, [], ◌∷◌}
use Prim.Native.Nat.{ℕ, zero, suc, ◌<◌, ◌≤◌}
use native.Mathlib.Nat.{le_trans, eq-or-lt_of_le}
use native.Mathlib.Omega.{arith}
use lib.ListN.{length, get_or, drop_of_length-le}
use lib.Seq.{drop-cons}
use borrow.Author.Tests.{lt-ltb, le-ltb, eq-eqb, ne_eqb}
use Rattle.model.specs.Lists.{Rising, none, more, below, has, place_of, select_of, rank_of}
use Rattle.model.proofs.Tests.{either, order, pick_true, pick_false, same_or_not}
use Rattle.model.proofs.Rising.{rising_from, rising_below, rising_strict}

-- ---- one step of each

pub below_under : (x : ℕ) (xs : List ℕ) (p : ℕ) → x < p → below (x ∷ xs) p ≡ suc (below xs p)
unfolding below
below_under x xs p h = pick_true _ _ (lt-ltb x p h)

pub below_past : (x : ℕ) (xs : List ℕ) (p : ℕ) → p ≤ x → below (x ∷ xs) p ≡ below xs p
unfolding below
below_past x xs p h = pick_false _ _ (le-ltb x p h)

pub has_here : (x : ℕ) (xs : List ℕ) (p : ℕ) → x ≡ p → has (x ∷ xs) p ≡ true
unfolding has
has_here x xs p h = pick_true _ _ (eq-eqb x p h)

pub has_later : (x : ℕ) (xs : List ℕ) (p : ℕ) → (x ≡ p → ⊥) → has (x ∷ xs) p ≡ has xs p
unfolding has
has_later x xs p h = pick_false _ _ (ne_eqb x p h)

-- ---- by the index that parts the list at p

pub below_cut : (xs : List ℕ) (p k : ℕ) → k ≤ length xs → ((i : ℕ) → i < k → get_or xs i 0 < p) → ((i : ℕ) → k ≤ i → i < length xs → p ≤ get_or xs i 0) → below xs p ≡ k
unfolding below
below_cut [] p k h b a = omega arith
below_cut (x ∷ xs) p zero h b a =
    below_past x xs p (a 0 (omega arith) (omega arith)) ∙ below_cut xs p 0 (omega arith) (λ i l. absurd (omega arith)) (λ i g l. a (suc i) (omega arith) (omega arith))
below_cut (x ∷ xs) p (suc k) h b a =
    below_under x xs p (b 0 (omega arith)) ∙ ap suc (below_cut xs p k (omega arith) (λ i l. b (suc i) (omega arith)) (λ i g l. a (suc i) (omega arith) (omega arith)))

pub below_most : (xs : List ℕ) (p : ℕ) → below xs p ≤ length xs
unfolding below
below_most [] p = omega arith
below_most (x ∷ xs) p =
    ⊎_elim (λ l. omega (arith, below_under x xs p l, below_most xs p)) (λ g. omega (arith, below_past x xs p g, below_most xs p)) (order x p)

-- ---- below and above all of a rising list

pub below_none : {a b : ℕ} {xs : List ℕ} → Rising a b xs → (p : ℕ) → p ≤ a → below xs p ≡ 0
below_none {a} {b} {xs} r p h = below_cut xs p 0 (omega arith) (λ i l. absurd (omega arith)) (λ i g l. le_trans h (rising_from r i l))

pub below_whole : {a b : ℕ} {xs : List ℕ} → Rising a b xs → (p : ℕ) → b ≤ p → below xs p ≡ length xs
below_whole {a} {b} {xs} r p h = below_cut xs p (length xs) (omega arith) (λ i l. le_trans (rising_below r i l) h) (λ i g l. absurd (omega arith))

pub has_inside : {a b : ℕ} {xs : List ℕ} → Rising a b xs → (p : ℕ) → has xs p ≡ true → (a ≤ p) × (p < b)
unfolding has
has_inside none p e = absurd (false≢true e)
has_inside (more {x = x} {xs = xs} l h r) p e =
    ⊎_elim
    (λ q. (rw q at l, rw q at h))
    (λ n. let s = has_inside r p (sym (has_later x xs p n) ∙ e) in (omega (arith, s.0), s.1))
    (same_or_not x p)

pub has_outside : {a b : ℕ} {xs : List ℕ} → Rising a b xs → (p : ℕ) → ((a ≤ p) × (p < b) → ⊥) → has xs p ≡ false
has_outside {a} {b} {xs} r p h = ⊎_elim (λ e. absurd (h (has_inside r p e))) (λ e. e) (either (has xs p))

pub place_before : {a b : ℕ} {xs : List ℕ} → Rising a b xs → (p : ℕ) → p < a → place_of xs p ≡ record { below = 0; present = false }
unfolding place_of
place_before r p h = rw (below_none r p (omega arith), has_outside r p (λ w. omega (arith, w.0)))

-- ---- place after select, select after place

pub below_at : {a b : ℕ} {xs : List ℕ} → Rising a b xs → (k : ℕ) → k < length xs → below xs (get_or xs k 0) ≡ k
below_at {a} {b} {xs} r k h =
    below_cut xs (get_or xs k 0) k (omega arith) (λ i l. rising_strict r i k l h)
    (λ i g l. ⊎_elim (λ q. rw (← q) (omega arith)) (λ m. omega (arith, rising_strict r k i m l)) (eq-or-lt_of_le g))

pub has_at : (xs : List ℕ) (k : ℕ) → k < length xs → has xs (get_or xs k 0) ≡ true
has_at [] k h = absurd (omega arith)
has_at (x ∷ xs) zero h = has_here x xs x refl
has_at (x ∷ xs) (suc k) h =
    ⊎_elim (λ q. has_here x xs (get_or xs k 0) q) (λ n. has_later x xs (get_or xs k 0) n ∙ has_at xs k (omega arith)) (same_or_not x (get_or xs k 0))

-- an index at which p stands
pub has_index : {a b : ℕ} {xs : List ℕ} → Rising a b xs → (p : ℕ) → has xs p ≡ true → (below xs p < length xs) × (get_or xs (below xs p) 0 ≡ p)
unfolding has
has_index none p e = absurd (false≢true e)
has_index (more {x = x} {xs = xs} l h r) p e =
    ⊎_elim
    (λ (q : x ≡ p). let z : below (x ∷ xs) p ≡ 0 = below_past x xs p (omega arith) ∙ below_none r p (omega arith) in rw z (omega arith, q))
    (λ n.
    let later = sym (has_later x xs p n) ∙ e in
    let ih = has_index r p later in
    let u : x < p = (has_inside r p later).0 in
    rw (below_under x xs p u) (omega (arith, ih.0), ih.1))
    (same_or_not x p)

-- ---- by members

-- two rising lists with the same members are equal
pub same_members : {a b c d : ℕ} {xs ys : List ℕ} → Rising a b xs → Rising c d ys → ((p : ℕ) → has xs p ≡ has ys p) → xs ≡ ys
unfolding has
same_members none none e = refl
same_members none (more {x = y} {xs = ys} l h s) e = absurd (false≢true (e y ∙ has_here y ys y refl))
same_members (more {x = x} {xs = xs} l h r) none e = absurd (false≢true (sym (e x) ∙ has_here x xs x refl))
same_members (more {x = x} {xs = xs} l h r) (more {x = y} {xs = ys} l' h' s) e =
    let x-in : has (y ∷ ys) x ≡ true = sym (e x) ∙ has_here x xs x refl in
    let y-in : has (x ∷ xs) y ≡ true = e y ∙ has_here y ys y refl in
    let y≤x : y ≤ x = (has_inside (more {a = y} (omega arith) h' s) x x-in).0 in
    let x≤y : x ≤ y = (has_inside (more {a = x} (omega arith) h r) y y-in).0 in
    let q : x ≡ y = omega arith in
    ap₂ (λ (z : ℕ) (zs : List ℕ). z ∷ zs) q (same_members r s (rest q))
  where
    rest : x ≡ y → (p : ℕ) → has xs p ≡ has ys p
    rest q p =
        ⊎_elim
        (λ m. has_outside r p (λ w. omega (arith, w.0)) ∙ sym (has_outside s p (λ w. omega (arith, w.0))))
        (λ n. sym (has_later x xs p n) ∙ e p ∙ has_later y ys p (λ z. n (q ∙ z)))
        (same_or_not x p)

-- ---- the public questions

pub select_is : (xs : List ℕ) (k : ℕ) → k < length xs → select_of xs k ≡ get_or xs k 0 ∷ []
select_is xs k h = rw (drop-cons xs k 0 h)

pub select_none : (xs : List ℕ) (k : ℕ) → length xs ≤ k → select_of xs k ≡ []
select_none xs k h = rw (drop_of_length-le xs h)

pub rank_is : (xs : List ℕ) (p : ℕ) → has xs p ≡ true → rank_of xs p ≡ below xs p ∷ []
unfolding rank_of
rank_is xs p e = pick_true _ _ e

-- the rank of the k-th is k; what stands at the rank of p is p
pub rank_select : {a b : ℕ} {xs : List ℕ} → Rising a b xs → (k : ℕ) → k < length xs → rank_of xs (get_or xs k 0) ≡ k ∷ []
rank_select {a} {b} {xs} r k h = rank_is xs (get_or xs k 0) (has_at xs k h) ∙ ap (λ (n : ℕ). n ∷ []) (below_at r k h)

pub select_rank : {a b : ℕ} {xs : List ℕ} → Rising a b xs → (p : ℕ) → has xs p ≡ true → select_of xs (below xs p) ≡ p ∷ []
select_rank {a} {b} {xs} r p e =
    let s = has_index r p e in
    select_is xs (below xs p) s.0 ∙ ap (λ (n : ℕ). n ∷ []) s.1
