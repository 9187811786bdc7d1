-- `gather_core::paging::added_all` meets its contract.
-- Assumes nothing.
use Rattle.gather_core.proofs.Singly.{Going}
use Rattle.gather_core.proofs.paging.added_all.Given as goal

abbrev pub invariant-loop-row : goal.invariant-loop-row
invariant-loop-row l = Going l.rows l.fn.g l.h l.row-index
