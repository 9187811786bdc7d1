-- The first i seeds have their statistics, and the next one starts at a.
-- Assumes nothing.
use Rattle.std.proofs.Common.{map}
use Rattle.seeds.proofs.Placing.{Placing}
use Rattle.seeds.proofs.records.put_rows.Given as goal

abbrev pub invariant-loop-i : goal.invariant-loop-i
invariant-loop-i g l = Placing l.fn.start (map g.R.Row.number l.rows) l.seeds l.n l.fn.w l.w l.a l.i
