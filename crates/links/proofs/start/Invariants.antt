-- The records of the seeds in front of i are filled.
-- Assumes nothing.
use Rattle.links.proofs.Filling.{Filling}
use Rattle.links.proofs.start.Given as goal

abbrev pub invariant-loop-i : goal.invariant-loop-i
invariant-loop-i l = Filling l.n l.i l.fn.w l.w
