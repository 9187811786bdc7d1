-- `lists::Items::walk` meets its contract: item from + i is written at i.
-- Assumes nothing.
use Rattle.std.proofs.Common.{zero-add, sym, arith}
use Rattle.model.proofs.Tests.{length-tabulate, get_or-tabulate}
use Rattle.model.proofs.Taking.{walk_tabulate}
use Rattle.model.proofs.Writing.{filled_start, filled_next, filled_whole, walked}
use Rattle.lists.specs.Lists.{list_names}
use Rattle.lists.proofs.Items.walk.Goals as goal

pub loop-i-init : goal.loop-i-init
loop-i-init c = filled_start _ _ _ _ (omega arith)

pub loop-i-preserved : goal.loop-i-preserved
loop-i-preserved c =
    let l = c.loop-i-test.true in
    filled_next c.loop-i.invariant _ (rw length-tabulate l) (get_or-tabulate _ _ _ 0 l) (sym (zero-add _)) (omega (arith, c.room-n.ensures)) (rw (c.item.ensures, c.from-start.ensures))

pub returns : goal.returns
unfolding list_names
returns c =
    walked _ _ _ (walk_tabulate _ _ _ _ c.room-n.ensures) (filled_whole c.loop-i.invariant (rw length-tabulate c.loop-i-test.false)) (length-tabulate _ _) (omega (arith, c.room-n.ensures))
