-- The depth of a number.
-- Assumes nothing.
use Rattle.std.specs.Prelude.{ℕ, zero, suc, ◌/◌}

-- the binary digits of n, k of them at most
unfoldable pub binary : ℕ → ℕ → ℕ
binary zero n = 0
binary (suc k) zero = 0
binary (suc k) (suc n) = suc (binary k (suc n / 2))

-- the count of binary digits of n, 0 for 0: n has at most n of them
unfoldable pub depth_of : ℕ → ℕ
depth_of n = binary n n
