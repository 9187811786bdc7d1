-- `lists::Items::rank` meets its contract.
-- Assumes nothing.
use Rattle.model.proofs.Counted.{test_is}
use Rattle.model.proofs.Ranking.{lies_from, rank_out, rank_in_lem}
use Rattle.lists.proofs.Items.rank.Goals as goal

pub overflow_sub-p : goal.overflow_sub-p
overflow_sub-p c = lies_from _ _ _ (test_is c.lies_in.ensures c.if-lies_in.true)

pub returns-then-lies_in : goal.returns-then-lies_in
returns-then-lies_in c = rank_in_lem _ _ _ _ (test_is c.lies_in.ensures c.if-lies_in.true) c.place.ensures c.rank_or.ensures

pub returns-else-lies_in : goal.returns-else-lies_in
returns-else-lies_in c = rank_out _ _ _ _ (test_is c.lies_in.ensures c.if-lies_in.false)
