-- `stats::rows::count_runs` meets its contract.
-- Assumes nothing.
use Rattle.std.proofs.Common.{map}
use Rattle.model.specs.Lists.{positions_of}
use Rattle.stats.proofs.RunByRun.{Counting}
use Rattle.stats.proofs.rows.count_runs.Given as goal

abbrev pub invariant-loop-i : goal.invariant-loop-i
invariant-loop-i g l = Counting (positions_of l.start (map g.R.Row.number l.rows)) l.runs l.i
