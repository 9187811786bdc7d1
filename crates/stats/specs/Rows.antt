-- The run that starts at an index, and rows that planning can take.
-- Assumes nothing.
use Rattle.std.specs.Prelude.{List, [], ◌∷◌, ℕ, suc, ◌+◌, ◌<◌, ◌≤◌, eqb, length, get_or, drop}
use Rattle.model.specs.Tests.{pick}
use Rattle.model.specs.Lists.{Rising}

-- how many go on from x by ones
unfoldable pub stretch : ℕ → List ℕ → ℕ
stretch x [] = 0
stretch x (y ∷ ys) = pick (eqb y (suc x)) (suc (stretch y ys)) 0

-- where the run that starts at index i ends
unfoldable pub run_end : List ℕ → ℕ → ℕ
run_end rows i = i + 1 + stretch (get_or rows i 0) (drop (i + 1) rows)

-- one or more rows that rise in a span of at most 4,294,967,295
pub record Covered (start : ℕ) (rows : List ℕ) : Type 0 where
  pub some : 1 ≤ length rows
  pub rising : Rising start (start + 4294967295) rows

-- one or more rows in a span of at most 4,294,967,295, whatever their order
pub record Within (start : ℕ) (rows : List ℕ) : Type 0 where
  pub some : 1 ≤ length rows
  pub few : length rows ≤ 4294967295
  pub from : (i : ℕ) → i < length rows → start ≤ get_or rows i 0
  pub below : (i : ℕ) → i < length rows → get_or rows i 0 < start + 4294967295
