-- `bitmap::Bitmap::ones_in` meets its contract.
-- Assumes nothing.
use Rattle.std.proofs.Common.{◌∙◌, arith}
use Rattle.bitmap.proofs.Words.{between_next}
use Rattle.bitmap.proofs.Bitmap.ones_in.Goals as goal

pub loop-at-preserved : goal.loop-at-preserved
loop-at-preserved c =
    let inv = c.loop-at.invariant in
    let e = c.ones-n.ensures in
    (omega arith, omega arith, between_next _ c.args.self.now.bytes _ _ _ _ _ inv.0 (omega arith) (e.0 ∙ rw c.word_at.ensures) e.1 inv.2)
