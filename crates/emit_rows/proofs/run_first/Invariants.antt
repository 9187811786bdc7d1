-- Step after step without a gap.
-- Assumes nothing.
use Rattle.std.proofs.Common.{◌+◌, ◌≤◌, map}
use Rattle.emit.specs.Words.{Unbroken}
use Rattle.emit_rows.proofs.run_first.Given as goal

abbrev pub invariant-loop-step : goal.invariant-loop-step
invariant-loop-step g l = (Unbroken (map g.R.Row.number l.rows) l.first l.at) × (l.step ≤ 16)

abbrev pub decreases-loop-step : goal.decreases-loop-step
decreases-loop-step g l = l.first + l.step
