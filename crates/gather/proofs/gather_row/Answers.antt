-- `gather::gather_row` meets its contract.
-- Assumes nothing.
use Rattle.std.proofs.Common.{sym}
use Rattle.std.proofs.lemmas.Result.{err_from_is_err_and}
use Rattle.gather_core.proofs.Admitted.{row_admitted}
use Rattle.gather.proofs.Taken.{row_done, row_refused}
use Rattle.gather.proofs.gather_row.Goals as goal

pub returns-in_err-row_fits : goal.returns-in_err-row_fits
returns-in_err-row_fits c =
    let p = err_from_is_err_and c.from_residual.result c.from_residual.ensures.1 in
    let r = row_refused _ _ _ _ c.in_err-row_fits.ensures in
    rw (p.1, p.2) (r.0, r.1.1)

pub put_row-requires : goal.put_row-requires
put_row-requires c = row_admitted _ _ _ (sym c.in_ok-row_fits.ensures)

pub returns : goal.returns
returns c = let d = row_done _ _ _ (sym c.in_ok-row_fits.ensures) _ _ c.put_row.ensures in (d.0, d.1.1)
