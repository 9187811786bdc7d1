-- Ends of seeds as planning takes them: test 4, and the windows where none are given.
-- Assumes nothing.
use Rattle.std.specs.Prelude.{ℕ, zero, suc, ◌-◌, ◌/◌, Bool, List, [], ◌∷◌, ◌++◌, length, ◌==◌, nat_le, nat_lt, slice_index}
use Rattle.model.specs.Tests.{pick, both, all}

-- where seed i starts
unfoldable pub start_of : List ℕ → ℕ → ℕ
start_of ends zero = 0
start_of ends (suc i) = slice_index ends i

-- seed i has a row, and its last − first is at most 65,534
unfoldable pub seed_at : List ℕ → List ℕ → ℕ → Bool
seed_at rows ends i = both (nat_lt (start_of ends i) (slice_index ends i)) (nat_le (slice_index rows (slice_index ends i - 1) - slice_index rows (start_of ends i)) 65534)

-- test 4: first at least 1, strictly rising, last = row count, each range's last − first ≤ 65,534
unfoldable pub seeds_fit : List ℕ → List ℕ → Bool
seeds_fit rows ends = both (all (seed_at rows ends) (length ends)) (slice_index ends (length ends - 1) == length rows)

-- row i and the next stand in the same 4,096-window of absolute row number
unfoldable pub same_at : List ℕ → ℕ → Bool
same_at rows i = slice_index rows (suc i) / 4096 == slice_index rows i / 4096

-- the ends inside the first n + 1 rows: wherever the next row stands in another window
unfoldable pub cuts : List ℕ → ℕ → List ℕ
cuts rows zero = []
cuts rows (suc i) = pick (same_at rows i) (cuts rows i) (cuts rows i ++ (suc i ∷ []))

-- the ends of the windows of rows, one or more
unfoldable pub windows : List ℕ → List ℕ
windows rows = cuts rows (length rows - 1) ++ (length rows ∷ [])
