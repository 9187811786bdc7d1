-- The local form runs, over the width w of a start in bytes: its layout, what is accepted, and what an accepted body names.
-- A body is a table: entry i has the start of run i (w bytes), its length and the rows before it (2 bytes each).
-- Assumes nothing.
use Rattle.std.specs.Prelude.{ℕ, zero, suc, ◌+◌, ◌*◌, ◌/◌, ◌^◌, min, Bool, List, [], ◌∷◌, ◌++◌, length, ◌==◌, nat_le}
use Rattle.fields.specs.Le.{digits}
use Rattle.model.specs.Tests.{both, all, flat, total}
use Rattle.model.specs.Lists.{counted, range, Run, run, runs_of}
use Rattle.search.specs.Search.{entry}

-- ---- the table

-- the bytes of an entry
abbrev pub stride_of : ℕ → ℕ
stride_of w = w + 4

-- how many entries the bytes hold
unfoldable pub run_count : ℕ → List ℕ → ℕ
run_count w xs = length xs / stride_of w

abbrev pub run_start : ℕ → List ℕ → ℕ → ℕ
run_start w xs = entry w xs 0 (stride_of w)

abbrev pub run_size : ℕ → List ℕ → ℕ → ℕ
run_size w xs = entry 2 xs w (stride_of w)

abbrev pub run_before : ℕ → List ℕ → ℕ → ℕ
run_before w xs = entry 2 xs (w + 2) (stride_of w)

-- ---- what the first n runs name

unfoldable pub run_at : ℕ → List ℕ → ℕ → Run
run_at w xs i = run (run_start w xs i) (run_size w xs i)

unfoldable pub runs_names : ℕ → List ℕ → ℕ → List ℕ
runs_names w xs n = flat (λ (i : ℕ). range (run_start w xs i) (run_size w xs i)) n

-- ---- what is accepted

-- the least start that run i may have: it does not touch the run before it
unfoldable pub least : ℕ → List ℕ → ℕ → ℕ
least w xs zero = 0
least w xs (suc i) = suc (run_start w xs i + run_size w xs i)

-- a run that starts at low or after, has a row, ends at most or before, and states its rows before
unfoldable pub fits : ℕ → ℕ → ℕ → ℕ → ℕ → ℕ → Bool
fits start size before low rows most = both (nat_le low start) (both (nat_le 1 size) (both (nat_le (start + size) most) (before == rows)))

unfoldable pub run_fits : ℕ → List ℕ → ℕ → ℕ → Bool
run_fits w xs most i = fits (run_start w xs i) (run_size w xs i) (run_before w xs i) (least w xs i) (total (run_size w xs) i) most

-- a run ends within the span, and where a start has 2 bytes also at 65,536 or before. Where it has 4 bytes the span says it already
unfoldable pub most_of : ℕ → ℕ → ℕ
most_of w span = min span (256 ^ w)

-- the first n runs stand apart within most, state the rows before them, and have count rows
unfoldable pub runs_stand : ℕ → List ℕ → ℕ → ℕ → ℕ → Bool
runs_stand w xs most count n = both (all (run_fits w xs most) n) (total (run_size w xs) n == count)

unfoldable pub runs_accepts : ℕ → List ℕ → ℕ → ℕ → Bool
runs_accepts w xs span count = both (counted span count) (both (run_count w xs * stride_of w == length xs) (runs_stand w xs (most_of w span) count (run_count w xs)))

-- ---- the layout

-- the entries of runs that have rows before them
unfoldable pub runs_bytes : ℕ → ℕ → List Run → List ℕ
runs_bytes w before [] = []
runs_bytes w before (r ∷ rs) = digits w r.start ++ digits 2 r.size ++ digits 2 before ++ runs_bytes w (before + r.size) rs

unfoldable pub runs_layout : ℕ → List ℕ → List ℕ
runs_layout w xs = runs_bytes w 0 (runs_of xs)
