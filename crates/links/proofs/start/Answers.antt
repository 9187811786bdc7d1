-- Assumes nothing.
use Rattle.std.proofs.Common.{arith}
use Rattle.links.proofs.Filling.{filling_none, filling_more, started}
use Rattle.links.proofs.start.Goals as goal

pub loop-i-init : goal.loop-i-init
loop-i-init c = filling_none _ _

pub loop-i-preserved : goal.loop-i-preserved
loop-i-preserved c = filling_more _ _ _ _ _ _ (omega arith) c.loop-i-test.true c.put.ensures c.put-in-loop-i.ensures c.loop-i.invariant

pub returns : goal.returns
returns c = started _ _ _ _ _ (omega arith) (omega arith) c.put-2.ensures c.loop-i.invariant
