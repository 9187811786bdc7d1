-- `seeds::given_fit` meets its contract.
-- Assumes nothing.
use Rattle.std.proofs.Common.{sym, ◌∙◌}
use borrow.Author.Tests.{eqb-true, eqb-false}
use Rattle.model.proofs.Counted.{test_is}
use Rattle.seeds.proofs.Ends.{none_fit, given-fit}
use Rattle.seeds.proofs.given_fit.Goals as goal

pub returns-then-is_empty : goal.returns-then-is_empty
returns-then-is_empty g c =
    c.if-is_empty.true ∙ sym (none_fit _ _ (eqb-true _ _ (test_is c.is_empty.ensures c.if-is_empty.true)))

pub returns-else-is_empty : goal.returns-else-is_empty
returns-else-is_empty g c =
    c.seeds_fit.ensures ∙ sym (given-fit _ _ (eqb-false _ _ (test_is c.is_empty.ensures c.if-is_empty.false)))
