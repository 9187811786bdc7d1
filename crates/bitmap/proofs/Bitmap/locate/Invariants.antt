-- `bitmap::Bitmap::locate` meets its contract.
-- Assumes nothing.
use Rattle.bitmap.proofs.Locating.{Locating}
use Rattle.bitmap.proofs.Bitmap.locate.Given as goal

abbrev pub invariant-loop-index : goal.invariant-loop-index
invariant-loop-index l = Locating l.self.body.now l.self.span l.k l.g l.end l.left l.index
