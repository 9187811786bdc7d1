-- Step after step without a gap.
-- Assumes nothing.
use Rattle.std.proofs.Common.{◌+◌, ◌-◌, ◌≤◌, length, map}
use Rattle.emit.specs.Words.{Unbroken}
use Rattle.emit_rows.proofs.run_last.Given as goal

abbrev pub invariant-loop-step : goal.invariant-loop-step
invariant-loop-step g l = (Unbroken (map g.R.Row.number l.rows) l.at l.last) × (l.step ≤ 32)

abbrev pub decreases-loop-step : goal.decreases-loop-step
decreases-loop-step g l = length l.rows - l.last + l.step
