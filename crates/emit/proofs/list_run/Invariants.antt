-- Item after item stands.
-- Assumes nothing.
use Rattle.fields.specs.Le.{width_of}
use Rattle.emit.proofs.Pieces.{Listing}
use Rattle.emit.proofs.list_run.Given as goal

abbrev pub invariant-loop-i : goal.invariant-loop-i
invariant-loop-i l = Listing (width_of l.wide) l.start l.size l.fn.out l.at l.p l.i l.out
