-- Statistics of rows in a coverage: those of their positions.
-- Assumes nothing.
use mathlib.Core.Path.{◌≡◌}
use mathlib.Core.List.{List}
use Prim.Native.Nat.{ℕ, ◌+◌, ◌-◌, ◌<◌, ◌≤◌}
use native.Mathlib.Omega.{arith}
use lib.ListN.{length, get_or}
use Rattle.model.specs.Lists.{runs_of, positions_of}
use Rattle.model.proofs.Positions.{length_positions, get_or_positions, positions_rising, runs_positions}
use Rattle.model.proofs.Rising.{rising_room, rising_from, rising_below}
use Rattle.stats.specs.Statistics.{stats_of, Sound}
use Rattle.stats.specs.Rows.{Covered, Within}
use Rattle.stats.proofs.Joining.{stats_sound}

pub stats_rows : (start : ℕ) (rows : List ℕ) → Covered start rows → stats_of (positions_of start rows) ≡ record { first = get_or rows 0 0 - start; last = get_or rows (length rows - 1) 0 - start; count = length rows; runs = length (runs_of rows) }
unfolding stats_of
stats_rows start rows k =
    let s = k.some in
    let runs = runs_positions start (omega arith) k.rising in
    rw (length_positions, get_or_positions start rows 0 s, get_or_positions start rows (length rows - 1) (omega arith), runs)

-- how many such rows there can be, and where their positions lie
pub covered_few : (start : ℕ) (rows : List ℕ) → Covered start rows → length rows ≤ 4294967295
covered_few start rows k = omega (arith, rising_room (omega arith) k.rising)

pub covered_at : (start : ℕ) (rows : List ℕ) (i : ℕ) → Covered start rows → i < length rows → (start ≤ get_or rows i 0) × (get_or rows i 0 < start + 4294967295)
covered_at start rows i k h = (rising_from k.rising i h, rising_below k.rising i h)

pub covered_sound : (start : ℕ) (rows : List ℕ) → Covered start rows → Sound (stats_of (positions_of start rows))
covered_sound start rows k =
    let e : start + 4294967295 - start ≡ 4294967295 = omega arith in
    stats_sound (rw e at (positions_rising start (omega arith) k.rising)) (rw length_positions k.some) (omega arith)

pub count_positions : {start : ℕ} {rows : List ℕ} → Within start rows → 1 ≤ length (positions_of start rows)
count_positions {start} {rows} w = rw (length_positions start rows) w.some

pub covered_within : {start : ℕ} {rows : List ℕ} → Covered start rows → Within start rows
covered_within {start} {rows} k = record {
  some = k.some;
  few = covered_few start rows k;
  from = λ i h. (covered_at start rows i k h).0;
  below = λ i h. (covered_at start rows i k h).1;
}

-- ordinals are their own positions, in any order
pub ordinals_within : {rows : List ℕ} → 1 ≤ length rows → length rows ≤ 4294967295 → ((i : ℕ) → get_or rows i 0 < 65536) → Within 0 rows
ordinals_within some few fit = record { some = some; few = few; from = λ i h. omega arith; below = λ i h. omega (arith, fit i) }
