-- The depth of a number: what the leading zeros of a word leave, and its bounds.
-- Assumes nothing.
use mathlib.Core.Path.{◌≡◌, refl, ap}
use Prim.Native.Nat.{ℕ, zero, suc, ◌+◌, ◌-◌, ◌*◌, ◌/◌, ◌^◌, ◌<◌, ◌≤◌}
use native.Mathlib.Nat.{pow-zero, pow-suc}
use native.Mathlib.Omega.{arith}
use lib.Count.{count_leading_zeros}
use Rattle.cost.specs.Sizes.{binary, depth_of}

pub binary_leading : (k n : ℕ) → binary k n + count_leading_zeros k n ≡ k
unfolding binary count_leading_zeros
binary_leading zero n = refl
binary_leading (suc k) zero = omega arith
binary_leading (suc k) (suc n) = omega (arith, binary_leading k (suc n / 2))

half_below : (k n : ℕ) → n < 2 ^ suc k → n / 2 < 2 ^ k
half_below k n h = let l : n < 2 ^ k * 2 = rw pow-suc at h in omega arith

-- digits beyond a number's own change nothing
pub binary_enough : (j k n : ℕ) → n < 2 ^ j → n < 2 ^ k → binary j n ≡ binary k n
unfolding binary
binary_enough zero zero n h l = refl
binary_enough zero (suc k) zero h l = refl
binary_enough zero (suc k) (suc n) h l = absurd (omega (arith, rw pow-zero at h))
binary_enough (suc j) zero zero h l = refl
binary_enough (suc j) zero (suc n) h l = absurd (omega (arith, rw pow-zero at l))
binary_enough (suc j) (suc k) zero h l = refl
binary_enough (suc j) (suc k) (suc n) h l = ap suc (binary_enough j k (suc n / 2) (half_below j (suc n) h) (half_below k (suc n) l))

below_power : (n : ℕ) → n < 2 ^ n
below_power zero = rw pow-zero (omega arith)
below_power (suc n) = rw pow-suc (omega (arith, below_power n))

-- the machine's count
pub depth_leading : (k n : ℕ) → n < 2 ^ k → k - count_leading_zeros k n ≡ depth_of n
unfolding depth_of
depth_leading k n h = omega (arith, binary_leading k n, binary_enough n k n (below_power n) h)

pub depth_least : (k n : ℕ) → n < 2 ^ k → depth_of n ≤ k
depth_least k n h = omega (arith, depth_leading k n h)
