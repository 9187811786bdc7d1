-- `stats::rows::run_end` meets its contract.
-- Assumes nothing.
use Rattle.std.proofs.Common.{map}
use Rattle.stats.proofs.RunByRun.{Running}
use Rattle.stats.proofs.rows.run_end.Given as goal

abbrev pub invariant-loop-j : goal.invariant-loop-j
invariant-loop-j g l = Running (map g.R.Row.number l.rows) l.i l.j
