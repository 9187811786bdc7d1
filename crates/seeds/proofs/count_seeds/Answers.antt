-- `seeds::count_seeds` meets its contract.
-- Assumes nothing.
use borrow.Author.Tests.{eqb-true, eqb-false}
use Rattle.model.proofs.Counted.{test_is}
use Rattle.seeds.proofs.Ends.{none_ends, given_ends}
use Rattle.seeds.proofs.count_seeds.Goals as goal

pub returns-then-is_empty : goal.returns-then-is_empty
returns-then-is_empty g c = rw (none_ends _ _ (eqb-true _ _ (test_is c.is_empty.ensures c.if-is_empty.true))) c.count_windows.ensures

pub returns-else-is_empty : goal.returns-else-is_empty
returns-else-is_empty g c = rw (given_ends _ _ (eqb-false _ _ (test_is c.is_empty.ensures c.if-is_empty.false)))
