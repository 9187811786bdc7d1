-- `Summing` holds at each cut, and the measure is what is left of the seeds.
-- Assumes nothing.
use Rattle.std.proofs.Common.{◌-◌}
use Rattle.assemble.proofs.Summing.{Summing}
use Rattle.assemble.proofs.summarize.Given as goal

abbrev pub invariant-loop-x : goal.invariant-loop-x
invariant-loop-x l = Summing l.n l.w l.x l.sum

abbrev pub decreases-loop-x : goal.decreases-loop-x
decreases-loop-x l = l.n - l.x
