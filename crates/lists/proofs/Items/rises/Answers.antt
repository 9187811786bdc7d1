-- `lists::Items::rises` meets its contract: the flag is the test of the pairs so far.
-- Assumes nothing.
use Rattle.std.proofs.Common.{◌≡◌, ◌-◌, ap}
use Rattle.lists.proofs.Climbing.{climbing_start, climbing_next, rises_none, rises_end}
use Rattle.lists.proofs.Items.rises.Goals as goal

pub returns-then-self-eq0 : goal.returns-then-self-eq0
returns-then-self-eq0 c = rises_none _ _ c.if-self-eq0.true

pub loop-i-init : goal.loop-i-init
loop-i-init c = climbing_start _ _

pub loop-i-preserved : goal.loop-i-preserved
loop-i-preserved c = climbing_next _ _ _ c.loop-i.invariant c.loop-i-test.true c.item.ensures c.item-in-loop-i.ensures

pub returns : goal.returns
returns c =
    let last : c.from-last.result - 1 ≡ c.args.self.now.count - 1 = ap (λ n. n - 1) c.from-last.ensures in
    rises_end _ _ _ c.if-self-eq0.false (rw last at c.loop-i.invariant) (rw last at c.loop-i-test.false) (rw last at c.item-2.ensures)
