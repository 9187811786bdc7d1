-- The number of a range of places: one mask, and how it goes in above digits that are set.
-- Assumes nothing.
use mathlib.Core.Path.{◌≡◌, sym, ◌∙◌}
use mathlib.Core.List.{List, [], ◌∷◌, ◌++◌}
use Prim.Native.Nat.{ℕ, zero, suc, ◌+◌, ◌-◌, ◌*◌, ◌/◌, ◌%◌, ◌^◌, ◌<◌, ◌≤◌}
use native.Mathlib.Nat.{add-zero, add_comm, mul_assoc, pow-suc, sub-zero}
use native.Mathlib.Omega.{arith}
use lib.Arith.{digits_lt}
use lib.Bits.{bit_or, or_shifted_r}
use lib.Pow.{pow_mono, pow-add, shl_exact, high, high_ones, ones_lt, ones_split}
use Rattle.model.specs.Lists.{range}
use Rattle.word.specs.Bits.{num_from}

pub num_append : (xs ys : List ℕ) → num_from 0 (xs ++ ys) ≡ num_from 0 xs + num_from 0 ys
unfolding num_from
num_append [] ys = omega arith
num_append (x ∷ xs) ys = rw (num_append xs ys) (omega arith)

range-between : (a n : ℕ) → num_from 0 (range a n) ≡ 2 ^ (a + n) - 2 ^ a
unfolding num_from range
range-between a zero = rw add-zero (omega arith)
range-between a (suc n) =
    let e : a + suc n ≡ suc a + n = omega arith in
    let m : 2 ^ suc a ≤ 2 ^ (suc a + n) = pow_mono {i = suc a} {j = suc a + n} (omega arith) in
    let d : 2 ^ suc a ≡ 2 ^ a * 2 = pow-suc 2 a in
    rw (range-between (suc a) n, e, sub-zero) (omega (arith, m, d))

-- n ones, a places up
pub num_range : (a n : ℕ) → num_from 0 (range a n) ≡ (2 ^ n - 1) * 2 ^ a
num_range a n = let e : a + n ≡ n + a = add_comm a n in range-between a n ∙ rw e (high_ones n a)

-- ---- above digits that are all below the range

pub range_or : (a n h : ℕ) → h < 2 ^ a → bit_or h (num_from 0 (range a n)) ≡ num_from 0 (range a n) + h
range_or a n h l = rw num_range (or_shifted_r (2 ^ n - 1) a h l)

pub range_lt : (a n h : ℕ) → h < 2 ^ a → num_from 0 (range a n) + h < 2 ^ (n + a)
range_lt a n h l = rw (num_range, pow-add 2 n a) (digits_lt (ones_lt n) l)

-- the same range d places further up
pub range_up : (a d n : ℕ) → num_from 0 (range (a + d) n) ≡ num_from 0 (range a n) * 2 ^ d
range_up a d n = rw (num_range (a + d) n, num_range a n, pow-add 2 a d) (sym (mul_assoc (2 ^ n - 1) (2 ^ a) (2 ^ d)))

-- ---- the code's mask: shifted down from 64 ones, so that no shift is by 64

pub mask_shifts : (low n : ℕ) → 1 ≤ n → low + n ≤ 64 → (18446744073709551615 / 2 ^ (64 - n)) * 2 ^ low % 2 ^ 64 ≡ num_from 0 (range low n)
mask_shifts low n some fits =
    let k = 64 - n in
    let e : n + k ≡ 64 = omega arith in
    let t : 2 ^ (n + k) - 1 ≡ (2 ^ n - 1) * 2 ^ k + (2 ^ k - 1) = ones_split n k in
    let o : 18446744073709551615 ≡ (2 ^ n - 1) * 2 ^ k + (2 ^ k - 1) = rw e at t in
    rw (o, high (2 ^ n - 1) k (ones_lt k), num_range) (shl_exact n low 64 (ones_lt n) (omega arith))
