-- `lists::fill` meets its contract: position pos + i is written at i.
-- Assumes nothing.
use Rattle.model.specs.Lists.{range}
use Rattle.model.proofs.Writing.{Filled}
use Rattle.lists.proofs.fill.Given as goal

abbrev pub invariant-loop-i : goal.invariant-loop-i
invariant-loop-i l = Filled l.base l.at (range l.pos l.size) l.fn.out l.out l.i
