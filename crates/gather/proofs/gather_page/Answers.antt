-- `gather::gather_page` meets its contract.
-- Assumes nothing.
use Rattle.std.proofs.Common.{sym, eqb-true}
use borrow.Author.Tests.{eqb-false}
use Rattle.std.proofs.lemmas.Result.{err_from_is_err_and}
use Rattle.model.specs.Tests.{pick}
use Rattle.model.proofs.Counted.{test_is}
use Rattle.gather_core.specs.Gather.{answered}
use Rattle.gather_core.proofs.Admitted.{answered_yes, kept_new}
use Rattle.gather_core.proofs.Pages.{empty_answer, empty_table, some_answer, some_table, page_admitted}
use Rattle.gather.proofs.Taken.{page_refused}
use Rattle.gather.proofs.gather_page.Goals as goal

pub returns-then-impossible : goal.returns-then-impossible
unfolding answered pick
returns-then-impossible c =
    let z = eqb-true _ _ (test_is c.is_empty.ensures c.if-is_empty.true) in
    (rw (empty_answer _ _ z _, ← c.impossible.ensures, c.if-impossible.true), sym (empty_table _ _ z _))

pub returns-else-impossible : goal.returns-else-impossible
unfolding answered pick
returns-else-impossible c =
    let z = eqb-true _ _ (test_is c.is_empty.ensures c.if-is_empty.true) in
    (rw (empty_answer _ _ z _, ← c.impossible.ensures, c.if-impossible.false), sym (empty_table _ _ z _))

pub returns-in_err-page_fits : goal.returns-in_err-page_fits
returns-in_err-page_fits c =
    let n = eqb-false _ _ (test_is c.is_empty.ensures c.if-is_empty.false) in
    let p = err_from_is_err_and c.from_residual.result c.from_residual.ensures.1 in
    rw (p.1, p.2) (page_refused _ _ _ n _ c.in_err-page_fits.ensures)

pub put_page-requires : goal.put_page-requires
put_page-requires c =
    page_admitted _ _ (eqb-false _ _ (test_is c.is_empty.ensures c.if-is_empty.false)) _ (sym c.in_ok-page_fits.ensures)

pub returns : goal.returns
returns c =
    let n = eqb-false _ _ (test_is c.is_empty.ensures c.if-is_empty.false) in
    let z = sym c.in_ok-page_fits.ensures in
    let w = c.put_page.ensures in
    rw (w.0, w.1, some_answer _ _ n _, some_table _ _ n _) (sym (answered_yes _ _ z), sym (kept_new _ _ _ z))
