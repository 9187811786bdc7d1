-- A hole sinks: the measure is what is left below it.
-- Assumes nothing.
use Rattle.std.proofs.Common.{◌-◌}
use Rattle.queue.proofs.Turns.{Sinking}
use Rattle.queue.proofs.settle.Given as goal

abbrev pub invariant-loop-i : goal.invariant-loop-i
invariant-loop-i l = Sinking l.fn.h l.m l.k l.h l.i

abbrev pub decreases-loop-i : goal.decreases-loop-i
decreases-loop-i l = l.m - l.i
