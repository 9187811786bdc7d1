-- `segmented::check` meets its contract.
-- Assumes nothing.
use Rattle.std.proofs.Common.{◌∙◌}
use Rattle.model.proofs.Counted.{test_is}
use Rattle.segmented.proofs.Laws.{directory_fails, parts_decide}
use Rattle.segmented.proofs.check.Goals as goal

pub returns-then-check : goal.returns-then-check
returns-then-check c = parts_decide _ _ (test_is c.check.ensures c.if-check.true) c.parts_ok.ensures

pub returns-else-check : goal.returns-else-check
returns-else-check c = c.if-check.false ∙ directory_fails _ _ (test_is c.check.ensures c.if-check.false)
