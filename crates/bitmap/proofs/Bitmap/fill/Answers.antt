-- `bitmap::Bitmap::fill` meets its contract.
-- Assumes nothing.
use Rattle.std.proofs.Common.{◌≡◌, length, refl, arith, rules}
use Rattle.model.proofs.Writing.{filled_full}
use Rattle.bitmap.proofs.Walking.{filling_start, filling_next, filling_out}
use Rattle.bitmap.proofs.Bitmap.fill.Goals as goal

pub loop-n-init : goal.loop-n-init
loop-n-init c = filling_start _ _ _ _ _ _ _ c.requires refl

pub returns-in_default : goal.returns-in_default
returns-in_default c = filling_out _ _ _ _ _ _ _ _ _ c.loop-n.invariant (search rules)

pub loop-n-preserved : goal.loop-n-preserved
loop-n-preserved c = filling_next _ _ _ _ _ _ _ _ _ _ _ c.loop-n.invariant (omega arith) c.in-Some.ensures c.lowest-next.ensures.0

pub returns : goal.returns
returns c =
    let e : c.loop-n.n ≡ length c.args.out.now = omega arith in
    rw e at (filled_full c.loop-n.invariant.filled (omega arith))
