-- Up to row j the window goes on.
-- Assumes nothing.
use Rattle.std.proofs.Common.{map}
use Rattle.seeds.proofs.Windows.{Walking}
use Rattle.seeds.proofs.records.window_end.Given as goal

abbrev pub invariant-loop-j : goal.invariant-loop-j
invariant-loop-j g l = Walking (map g.R.Row.number l.rows) l.a l.j
