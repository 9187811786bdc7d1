-- `deletion::copy` meets its contract: one position more.
use Rattle.deletion.proofs.Walking.{copied_next}
use Rattle.deletion.proofs.copy.Goals as goal

pub loop-i-preserved : goal.loop-i-preserved
loop-i-preserved c = copied_next _ _ _ _ _ c.loop-i.invariant c.loop-i-test.true
