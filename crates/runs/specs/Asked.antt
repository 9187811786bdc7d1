-- Place, select and walk of a table of runs, on any bytes, over the width w of a start.
-- Assumes nothing.
use Rattle.std.specs.Prelude.{ℕ, zero, suc, ◌+◌, ◌-◌, ◌%◌, min, false, List, [], ◌++◌, take, nat_lt}
use Rattle.model.specs.Lists.{range, moved}
use Rattle.model.specs.declared.Place.{Place}
use Rattle.search.specs.Search.{find, up_to}
use Rattle.runs.specs.Runs.{run_start, run_size, run_before}
use Rattle.runs.specs.declared.Entry.{Entry}

-- entry i of the table
unfoldable pub entry_of : ℕ → List ℕ → ℕ → Entry
entry_of w xs i = record { start = run_start w xs i; size = run_size w xs i; before = run_before w xs i }

-- where the search ends for a run that starts after p, and for one that states more than k rows before it. On an accepted body
-- these are the number of runs that start at p or before, and of those that have at most k rows before them
unfoldable pub starts_to : ℕ → List ℕ → ℕ → ℕ → ℕ
starts_to w xs n p = find (up_to false (run_start w xs) p) 0 n

unfoldable pub before_to : ℕ → List ℕ → ℕ → ℕ → ℕ
before_to w xs n k = find (up_to false (run_before w xs) k) 0 n

-- what the last of k runs answers, or what no run answers
unfoldable pub last_of : {A : Type 0} → A → (ℕ → A) → ℕ → A
last_of none of zero = none
last_of none of (suc i) = of i

-- ---- the place of a position, by the last run that starts at p or before

unfoldable pub place_in : Entry → ℕ → Place
place_in e p = record { below = e.before + min (p - e.start) e.size; present = nat_lt (p - e.start) e.size }

unfoldable pub runs_place : ℕ → List ℕ → ℕ → ℕ → Place
runs_place w xs n p = last_of (record { below = 0; present = false }) (λ (i : ℕ). place_in (entry_of w xs i) p) (starts_to w xs n p)

-- ---- the position of an ordinal, in 32 bits, by the last run with at most k rows before it

unfoldable pub nth_of : Entry → ℕ → ℕ
nth_of e k = (e.start + (k - e.before)) % 4294967296

unfoldable pub runs_select : ℕ → List ℕ → ℕ → ℕ → ℕ
runs_select w xs n k = last_of 0 (λ (i : ℕ). nth_of (entry_of w xs i) k) (before_to w xs n k)

-- ---- the walk, from that run on

-- the positions of m runs from run i on, the first skip of run i left out
unfoldable pub runs_from : ℕ → List ℕ → ℕ → ℕ → ℕ → List ℕ
runs_from w xs zero i skip = []
runs_from w xs (suc m) i skip = range (run_start w xs i + skip) (run_size w xs i - skip) ++ runs_from w xs m (suc i) 0

-- the positions from ordinal k on
unfoldable pub runs_rest : ℕ → List ℕ → ℕ → ℕ → List ℕ
runs_rest w xs n k = last_of [] (λ (i : ℕ). runs_from w xs (n - i) i (k - run_before w xs i)) (before_to w xs n k)

-- as many as fit, counted from base
unfoldable pub runs_walk : ℕ → List ℕ → ℕ → ℕ → ℕ → ℕ → List ℕ
runs_walk w xs n k base room = moved base (take room (runs_rest w xs n k))
