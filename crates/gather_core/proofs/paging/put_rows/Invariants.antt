-- `gather_core::paging::put_rows` meets its contract.
-- Assumes nothing.
use Rattle.gather_core.proofs.Singly.{Filling}
use Rattle.gather_core.proofs.paging.put_rows.Given as goal

abbrev pub invariant-loop-row : goal.invariant-loop-row
invariant-loop-row l = Filling l.rows l.fn.table l.fn.g l.table l.h l.row-index
