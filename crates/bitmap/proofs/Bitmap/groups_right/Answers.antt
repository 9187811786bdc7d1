-- `bitmap::Bitmap::groups_right` meets its contract.
-- Assumes nothing.
use Rattle.std.proofs.Common.{◌*◌, ◌∙◌, arith}
use Rattle.bitmap.proofs.Words.{before_most}
use Rattle.bitmap.proofs.Groups.{counting_start, counting_next, counting_end}
use Rattle.bitmap.proofs.Bitmap.groups_right.Goals as goal

pub loop-g-init : goal.loop-g-init
loop-g-init c = counting_start _ _

pub overflow_add-n : goal.overflow_add-n
overflow_add-n c = omega (arith, before_most c.args.self.now.body.now c.args.self.now.span (256 * c.loop-g.g))

pub loop-g-preserved : goal.loop-g-preserved
loop-g-preserved c =
    rw c.from-n.ensures
    (counting_next _ c.args.self.now.bytes _ _ _ _ _ _ _ c.loop-g.invariant (omega arith)
    (c.from.ensures ∙ c.read16.ensures) (c.min.ensures ∙ rw c.words_of-words.ensures) c.ones_in.ensures)

pub returns : goal.returns
returns c = rw c.from-2.ensures (counting_end _ c.args.self.now.bytes _ _ _ _ _ c.loop-g.invariant (omega arith))
