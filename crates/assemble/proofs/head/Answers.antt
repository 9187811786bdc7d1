-- `assemble::head` meets its contract: two fields.
-- Assumes nothing.
use mathlib.Core.Path.{refl}
use Rattle.emit.proofs.Emitting.{written_more, written-put}
use Rattle.assemble.proofs.head.Goals as goal

pub returns : goal.returns
returns c = written_more (written-put 2 _ 0 c.put16.ensures refl) (written-put 2 _ 2 c.put16-2.ensures refl)
