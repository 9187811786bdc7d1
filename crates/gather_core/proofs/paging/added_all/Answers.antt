-- `gather_core::paging::added_all` meets its contract.
-- Assumes nothing.
use Rattle.gather_core.proofs.Singly.{going_next, going_end}
use Rattle.gather_core.proofs.paging.added_all.Goals as goal

pub loop-row-preserved : goal.loop-row-preserved
loop-row-preserved c = rw c.added-h.ensures (going_next _ _ _ _ c.loop-row.invariant c.loop-row-test.true)

pub returns : goal.returns
returns c = going_end _ _ _ _ c.loop-row.invariant c.loop-row-test.false
