-- The windows of the first i + 1 rows are counted.
-- Assumes nothing.
use Rattle.std.proofs.Common.{map}
use Rattle.seeds.proofs.Windows.{Counting}
use Rattle.seeds.proofs.count_windows.Given as goal

abbrev pub invariant-loop-i : goal.invariant-loop-i
invariant-loop-i g l = Counting (map g.R.Row.number l.rows) l.n l.i
