-- Rising lists: their bounds, their parts, their elements by index and their ends.
-- Assumes nothing.
use mathlib.Core.Path.{◌≡◌, ap}
use mathlib.Core.Logic.{⊎_elim}
use mathlib.Core.List.{List, [], ◌∷◌, ◌++◌}
use Prim.Native.Nat.{ℕ, zero, suc, ◌+◌, ◌-◌, ◌<◌, ◌≤◌}
use native.Mathlib.Nat.{le_trans, eq-or-lt_of_le}
use native.Mathlib.Omega.{arith}
use lib.ListN.{length, get_or, take, drop}
use Rattle.model.specs.Lists.{Rising, none, more}

-- ---- taking apart and widening

pub rising_high : {a b x : ℕ} {xs : List ℕ} → Rising a b (x ∷ xs) → x < b
rising_high (more l h r) = h

pub rising_rest : {a b x : ℕ} {xs : List ℕ} → Rising a b (x ∷ xs) → Rising (suc x) b xs
rising_rest (more l h r) = r

pub rising_wider : {a b c d : ℕ} {xs : List ℕ} → c ≤ a → b ≤ d → Rising a b xs → Rising c d xs
rising_wider l h none = none
rising_wider l h (more p q r) = more (le_trans l p) (le_trans q h) (rising_wider (omega arith) h r)

pub rising_append : {a m b : ℕ} {xs ys : List ℕ} → a ≤ m → m ≤ b → Rising a m xs → Rising m b ys → Rising a b (xs ++ ys)
rising_append l h none s = rising_wider l (omega arith) s
rising_append l h (more p q r) s = more p (le_trans q h) (rising_append q h r s)

-- the two parts of a rising list meet at mid
pub record Parted (a b : ℕ) (xs ys : List ℕ) : Type 0 where
  pub mid : ℕ
  pub low : a ≤ mid
  pub high : mid ≤ b
  pub front : Rising a mid xs
  pub back : Rising mid b ys

pub rising_split : {a b : ℕ} (xs ys : List ℕ) → a ≤ b → Rising a b (xs ++ ys) → Parted a b xs ys
rising_split {a} [] ys h r = record { mid = a; low = omega arith; high = h; front = none; back = r }
rising_split (x ∷ xs) ys h (more p q r) =
    let o = rising_split xs ys q r in
    record { mid = o.mid; low = omega (arith, o.low); high = o.high; front = more p o.low o.front; back = o.back }

pub rising_take : {a b : ℕ} {xs : List ℕ} (n : ℕ) → Rising a b xs → Rising a b (take n xs)
rising_take zero r = none
rising_take (suc n) none = none
rising_take (suc n) (more l h r) = more l h (rising_take n r)

pub rising_drop : {a b : ℕ} {xs : List ℕ} (n : ℕ) → Rising a b xs → Rising a b (drop n xs)
rising_drop zero r = r
rising_drop (suc n) none = none
rising_drop (suc n) (more l h r) = rising_wider (omega arith) (omega arith) (rising_drop n r)

-- ---- the elements by index

pub rising_from : {a b : ℕ} {xs : List ℕ} → Rising a b xs → (i : ℕ) → i < length xs → a ≤ get_or xs i 0
rising_from none i h = absurd (omega arith)
rising_from (more p q r) zero h = p
rising_from (more p q r) (suc i) h = omega (arith, rising_from r i (omega arith))

pub rising_below : {a b : ℕ} {xs : List ℕ} → Rising a b xs → (i : ℕ) → i < length xs → get_or xs i 0 < b
rising_below none i h = absurd (omega arith)
rising_below (more p q r) zero h = q
rising_below (more p q r) (suc i) h = rising_below r i (omega arith)

-- what stands before the i-th is below it
pub rising_before : {a b : ℕ} {xs : List ℕ} (i : ℕ) → Rising a b xs → i < length xs → Rising a (get_or xs i 0) (take i xs)
rising_before i none h = absurd (omega arith)
rising_before zero (more l u r) h = none
rising_before (suc i) (more l u r) h = more l (rising_from r i (omega arith)) (rising_before i r (omega arith))

-- strictly: the distance of two elements is at least that of their indices
pub rising_apart : {a b : ℕ} {xs : List ℕ} → Rising a b xs → (i j : ℕ) → i < j → j < length xs → get_or xs i 0 + (j - i) ≤ get_or xs j 0
rising_apart none i j l h = absurd (omega arith)
rising_apart (more p q r) zero (suc zero) l h = omega (arith, rising_from r 0 (omega arith))
rising_apart (more p q r) zero (suc (suc j)) l h = omega (arith, rising_from r 0 (omega arith), rising_apart r zero (suc j) (omega arith) (omega arith))
rising_apart (more p q r) (suc i) (suc j) l h = omega (arith, rising_apart r i j (omega arith) (omega arith))
rising_apart (more p q r) i zero l h = absurd (omega arith)

pub rising_strict : {a b : ℕ} {xs : List ℕ} → Rising a b xs → (i j : ℕ) → i < j → j < length xs → get_or xs i 0 < get_or xs j 0
rising_strict r i j l h = omega (arith, rising_apart r i j l h)

-- as many as there is room for
pub rising_room : {a b : ℕ} {xs : List ℕ} → a ≤ b → Rising a b xs → a + length xs ≤ b
rising_room l none = omega arith
rising_room l (more p q r) = omega (arith, rising_room q r)

-- from the elements: what a check by index has shown
pub rising_tests : (a b : ℕ) (xs : List ℕ) → ((i : ℕ) → i < length xs → a ≤ get_or xs i 0) → ((i : ℕ) → i < length xs → get_or xs i 0 < b) → ((i : ℕ) → suc i < length xs → get_or xs i 0 < get_or xs (suc i) 0) → Rising a b xs
rising_tests a b [] f g h = none
rising_tests a b (x ∷ xs) f g h =
    let up : (i : ℕ) → i < length xs → suc x ≤ get_or xs i 0 = climbing x xs (λ i l. h i (omega arith)) in
    more (f 0 (omega arith)) (g 0 (omega arith)) (rising_tests (suc x) b xs up (λ i l. g (suc i) (omega arith)) (λ i l. h (suc i) (omega arith)))
  where
    climbing : (x : ℕ) (xs : List ℕ) → ((i : ℕ) → i < length xs → get_or (x ∷ xs) i 0 < get_or xs i 0) → (i : ℕ) → i < length xs → suc x ≤ get_or xs i 0
    climbing x xs h zero l = h 0 l
    climbing x xs h (suc i) l = omega (arith, h (suc i) l, climbing x xs h i (omega arith))

-- ---- between its ends: the first is the least, and the last the largest

module _ {a b : ℕ} {xs : List ℕ} (r : Rising a b xs) where
  pub rising_first : (i : ℕ) → i < length xs → get_or xs 0 0 ≤ get_or xs i 0
  rising_first zero h = omega arith
  rising_first (suc i) h = omega (arith, rising_strict r 0 (suc i) (omega arith) h)

  rising_last : (i : ℕ) → i < length xs → get_or xs i 0 ≤ get_or xs (length xs - 1) 0
  rising_last i h =
      let m : i ≤ length xs - 1 = omega arith in
      ⊎_elim (λ q. omega (arith, ap (λ (k : ℕ). get_or xs k 0) q)) (λ u. omega (arith, rising_strict r i (length xs - 1) u (omega arith))) (eq-or-lt_of_le m)

  pub rising_ends : {n : ℕ} → n ≡ get_or xs (length xs - 1) 0 - get_or xs 0 0 + 1 → Rising (get_or xs 0 0) (get_or xs 0 0 + n) xs
  rising_ends e = rising_tests (get_or xs 0 0) _ xs rising_first (λ i h. omega (arith, e, rising_first i h, rising_last i h)) (λ i h. rising_strict r i (suc i) (omega arith) h)
