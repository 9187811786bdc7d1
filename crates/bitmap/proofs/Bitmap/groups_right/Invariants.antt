-- `bitmap::Bitmap::groups_right` meets its contract.
-- Assumes nothing.
use Rattle.bitmap.proofs.Groups.{Counting}
use Rattle.bitmap.proofs.Bitmap.groups_right.Given as goal

abbrev pub invariant-loop-g : goal.invariant-loop-g
invariant-loop-g l = Counting l.self.body.now l.self.span l.n l.ok l.g
