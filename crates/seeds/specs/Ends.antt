-- The ends of seeds as they are tested and found: test 4 in two parts, of which the second reads rows only where the first has passed; and a window of rows.
-- Assumes nothing.
use Rattle.std.specs.Prelude.{◌≡◌, Bool, true, false, List, ℕ, suc, ◌-◌, ◌/◌, ◌<◌, ◌≤◌, eqb, leb, ltb, length, get_or}
use Rattle.model.specs.Tests.{both}
use Rattle.gather_core.specs.Gather.{rises}
use Rattle.gather_core.specs.Seeds.{start_of, same_at}

-- first at least 1, strictly rising, last = row count
unfoldable pub ends_rise : ℕ → List ℕ → Bool
ends_rise count ends = both (both (ltb 0 (get_or ends 0 0)) (rises ends)) (eqb (get_or ends (length ends - 1) 0) count)

-- the range of rows from index a up to index b has last − first ≤ 65,534
unfoldable pub near : List ℕ → ℕ → ℕ → Bool
near rows a b = leb (get_or rows (b - 1) 0 - get_or rows a 0) 65534

-- that of seed i
unfoldable pub near_at : List ℕ → List ℕ → ℕ → Bool
near_at rows ends i = near rows (start_of ends i) (get_or ends i 0)

-- two rows stand in the same 4,096-window of absolute row number
unfoldable pub together : ℕ → ℕ → Bool
together a b = eqb (b / 4096) (a / 4096)

-- from index a up to index b the rows stand in one window, and the next, if there is one, in another
pub record Window (rows : List ℕ) (a b : ℕ) : Type 0 where
  pub some : a < b
  pub inside : b ≤ length rows
  pub same : (k : ℕ) → a ≤ k → suc k < b → same_at rows k ≡ true
  pub other : b < length rows → same_at rows (b - 1) ≡ false
