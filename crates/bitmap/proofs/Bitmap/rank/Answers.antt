-- `bitmap::Bitmap::rank` meets its contract.
-- Assumes nothing.
use Rattle.model.proofs.Counted.{test_is}
use Rattle.model.proofs.Ranking.{lies_from, lies_below, rank_out}
use Rattle.bitmap.proofs.Readings.{rank_row, rank_absent}
use Rattle.bitmap.proofs.Bitmap.rank.Goals as goal
use Rattle.bitmap.proofs.Bitmap.rank.Goals.{else-lies_in-via-then-lies_in+else-is_row, else-lies_in-via-else-lies_in}

pub overflow_sub-p : goal.overflow_sub-p
overflow_sub-p c = lies_from _ _ _ (test_is c.lies_in.ensures c.if-lies_in.true)

pub is_row-requires : goal.is_row-requires
is_row-requires c = lies_below _ _ _ (test_is c.lies_in.ensures c.if-lies_in.true)

pub overflow_sub-p-then-is_row : goal.overflow_sub-p-then-is_row
overflow_sub-p-then-is_row c = lies_from _ _ _ (test_is c.lies_in.ensures c.if-lies_in.true)

pub rows_below-requires : goal.rows_below-requires
rows_below-requires c = lies_below _ _ _ (test_is c.lies_in.ensures c.if-lies_in.true)

pub returns-then-is_row : goal.returns-then-is_row
returns-then-is_row c =
    rank_row _ _ _ _ _ (test_is c.lies_in.ensures c.if-lies_in.true) (test_is c.is_row.ensures c.if-is_row.true) c.rows_below.ensures

pub returns-else-lies_in : goal.returns-else-lies_in
returns-else-lies_in c =
    elim c.else-lies_in.branch [
      | else-lies_in-via-then-lies_in+else-is_row w ↦
          rank_absent _ _ _ _ _ (test_is c.lies_in.ensures w.if-lies_in.true) (test_is w.is_row.ensures w.if-is_row.false)
      | else-lies_in-via-else-lies_in w ↦ rank_out _ _ _ _ (test_is c.lies_in.ensures w.if-lies_in.false)
    ]
