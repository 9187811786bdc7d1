-- A hole rises: the measure is its place.
-- Assumes nothing.
use Rattle.queue.proofs.Turns.{Rising}
use Rattle.queue.proofs.push.Given as goal

abbrev pub invariant-loop-i : goal.invariant-loop-i
invariant-loop-i l = Rising l.fn.h l.n l.k l.h l.i

abbrev pub decreases-loop-i : goal.decreases-loop-i
decreases-loop-i l = l.i
