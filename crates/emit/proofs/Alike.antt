-- The run that starts at an index, of rows and of their positions alike.
-- Assumes nothing.
use mathlib.Core.Path.{◌≡◌, refl}
use mathlib.Core.List.{List}
use Prim.Native.Nat.{ℕ, suc, ◌+◌, ◌-◌, ◌<◌, ◌≤◌}
use native.Mathlib.Omega.{arith}
use lib.Dec.{eqb}
use lib.ListN.{length, get_or}
use Rattle.model.specs.Lists.{Rising, none, more, positions_of}
use Rattle.model.proofs.Tests.{same_eqb}
use Rattle.model.proofs.Rising.{rising_from, rising_drop}
use Rattle.stats.specs.Rows.{stretch, run_end}
use Rattle.model.proofs.Positions.{get_or_positions, positions_drop}

follows_same : (base x y : ℕ) → base ≤ x → base ≤ y → eqb (y - base) (suc (x - base)) ≡ eqb y (suc x)
follows_same base x y p q = same_eqb (y - base) (suc (x - base)) y (suc x) (λ e. omega arith) (λ e. omega arith)

stretch_positions : {a b : ℕ} {ys : List ℕ} (base x : ℕ) → base ≤ x → base ≤ a → Rising a b ys → stretch (x - base) (positions_of base ys) ≡ stretch x ys
unfolding stretch positions_of
stretch_positions base x h l none = refl
stretch_positions base x h l (more {x = y} p q r) =
    rw (follows_same base x y h (omega arith), stretch_positions base y (omega arith) (omega arith) r)

-- rows and their positions have the same runs
pub run-same : {b : ℕ} {rows : List ℕ} (base : ℕ) → Rising base b rows → (i : ℕ) → i < length rows → run_end (positions_of base rows) i ≡ run_end rows i
unfolding run_end
run-same {b} {rows} base r i h =
    rw (get_or_positions base rows i h, ← positions_drop base (i + 1) rows, stretch_positions base (get_or rows i 0) (rising_from r i h) (omega arith) (rising_drop (i + 1) r))
