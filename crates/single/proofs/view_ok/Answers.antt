-- `single::view_ok` meets its contract, test by test.
-- Assumes nothing.
use Rattle.std.proofs.Common.{arith}
use borrow.Author.Tests.{not-false, not-true}
use Rattle.model.proofs.Counted.{test_is}
use Rattle.single.proofs.Laws.{view_short, view_wide, view-refused, view_ends, view_plain}
use Rattle.single.proofs.view_ok.Goals as goal
use Rattle.single.proofs.view_ok.Goals.{then-body-v-via-then-body-v, then-body-v-via-else-body-v+then-from}

pub returns-then-body-v : goal.returns-then-body-v
returns-then-body-v c =
    elim c.then-body-v.branch [
      | then-body-v-via-then-body-v w ↦ view_short _ _ _ w.if-body-v.true
      | then-body-v-via-else-body-v+then-from w ↦ view_wide _ _ _ w.if-body-v.false (omega arith)
    ]

pub returns-then-not-v : goal.returns-then-not-v
returns-then-not-v c = rw c.if-not-v.true (view_plain _ _ _ c.if-body-v.false (omega arith) (test_is c.check.ensures c.if-check.true) (not-true _ c.if-not-v.true))

pub returns-else-not-v : goal.returns-else-not-v
returns-else-not-v c = view_ends _ _ _ c.if-body-v.false (omega arith) (test_is c.check.ensures c.if-check.true) (not-false _ c.if-not-v.false) c.ends.ensures

pub returns-else-check : goal.returns-else-check
returns-else-check c = rw c.if-check.false (view-refused _ _ _ c.if-body-v.false (omega arith) (test_is c.check.ensures c.if-check.false))
