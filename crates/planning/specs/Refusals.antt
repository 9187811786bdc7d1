-- The tests of planning before any merging, 1 to 5 in document 01's order, and the ends of the seeds.
-- Assumes nothing.
use Rattle.std.specs.Prelude.{Bool, true, List, ℕ, ◌-◌, ◌*◌, eqb, leb, ltb, length, get_or}
use Rattle.model.specs.Tests.{pick, both}
use Rattle.gather_core.specs.Gather.{rises}
use Rattle.gather_core.specs.Seeds.{seeds_fit, windows}

-- 1: end < start, or span 0, or span > 4,294,967,295
unfoldable pub coverage_fits : ℕ → ℕ → Bool
coverage_fits start end = both (ltb start end) (leb (end - start) 4294967295)

-- 2: no rows or more than 65,535
unfoldable pub count_fits : List ℕ → Bool
count_fits rows = both (leb 1 (length rows)) (leb (length rows) 65535)

-- 3: rows not strictly rising, or outside coverage
unfoldable pub rows_fit : ℕ → ℕ → List ℕ → Bool
rows_fit start end rows = both (both (leb start (get_or rows 0 0)) (ltb (get_or rows (length rows - 1) 0) end)) (rises rows)

-- 4: seed ends given, and not fit
unfoldable pub given_fit : List ℕ → List ℕ → Bool
given_fit rows seeds = pick (eqb (length seeds) 0) true (seeds_fit rows seeds)

-- the ends of the seeds: those given, or the windows of absolute row number
unfoldable pub ends_of : List ℕ → List ℕ → List ℕ
ends_of rows seeds = pick (eqb (length seeds) 0) (windows rows) seeds

-- 5: workspace below 24 words per seed, given or generated
unfoldable pub room_fits : List ℕ → List ℕ → ℕ → Bool
room_fits rows seeds words = leb (length (ends_of rows seeds) * 24) words

-- the number of the first that is not met, or 0
unfoldable pub early_number : ℕ → ℕ → List ℕ → List ℕ → ℕ → ℕ
early_number start end rows seeds words =
    pick (coverage_fits start end)
    (pick (count_fits rows) (pick (rows_fit start end rows) (pick (given_fit rows seeds) (pick {A = ℕ} (room_fits rows seeds words) 0 5) 4) 3) 2)
    1
