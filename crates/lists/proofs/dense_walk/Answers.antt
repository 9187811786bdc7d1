-- `lists::dense_walk` meets its contract: what fits or remains is one range.
-- Assumes nothing.
use Rattle.std.proofs.Common.{zero-add, arith}
use Rattle.model.proofs.Ranges.{length-range}
use Rattle.model.proofs.Taking.{walk_range}
use Rattle.model.proofs.Writing.{walked}
use Rattle.lists.proofs.dense_walk.Goals as goal

pub returns : goal.returns
returns c = walked _ _ _ (rw zero-add at (walk_range 0 _ _ _ c.room-n.ensures)) (rw c.from.ensures at c.fill.ensures) (length-range _ _) (omega (arith, c.room-n.ensures))
