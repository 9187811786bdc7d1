-- How rows go from one to the next, as the test of many rows at once finds it.
-- Assumes nothing.
use Rattle.std.specs.Prelude.{ℕ, ◌+◌, ◌^◌, ◌<◌, ◌≤◌, ◌⊎◌, List, slice_index}

-- from a to b: up by at most 2^64 − least, or down by least or more
abbrev pub Up : ℕ → ℕ → ℕ → Type 0
Up least a b = (a < b) × (b + least ≤ a + 2 ^ 64)

abbrev pub Step : ℕ → ℕ → ℕ → Type 0
Step least a b = Up least a b ⊎ (b + least ≤ a)

-- each of the first n steps is such a one
pub record Stepped (least : ℕ) (rows : List ℕ) (n : ℕ) : Type 0 where
  pub step : (i : ℕ) → i < n → Step least (slice_index rows i) (slice_index rows (i + 1))
