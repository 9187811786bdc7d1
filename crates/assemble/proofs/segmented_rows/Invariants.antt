-- `Placing` holds at each cut, and the measure is what is left of the seeds.
-- Assumes nothing.
use Rattle.std.proofs.Common.{◌-◌, map}
use Rattle.assemble.proofs.Placing.{Placing}
use Rattle.assemble.proofs.segmented_rows.Given as goal

abbrev pub invariant-loop-x : goal.invariant-loop-x
invariant-loop-x g l = Placing l.n l.w l.start (map g.R.Row.number l.rows) l.segments l.fn.out l.x l.i l.a l.at l.out

abbrev pub decreases-loop-x : goal.decreases-loop-x
decreases-loop-x g l = l.n - l.x
