-- `gather::lent::add_row` meets its contract.
-- Assumes nothing.
use Rattle.std.proofs.Common.{sym}
use Rattle.std.proofs.lemmas.Result.{err_from_is_err_and}
use Rattle.gather.specs.Records.{Leads}
use Rattle.gather.proofs.Taken.{row_done, row_refused}
use Rattle.gather.proofs.lent.add_row.Goals as goal

pub returns-in_err-row_way : goal.returns-in_err-row_way
unfolding Leads
returns-in_err-row_way c =
    let p = err_from_is_err_and c.from_residual.result c.from_residual.ensures.1 in
    let r = row_refused _ _ _ _ (sym c.in_err-row_way.ensures) in
    record { answered = rw (p.1, p.2) r.0; record_after = r.1.0; table_after = r.1.1 }

pub put_on-requires : goal.put_on-requires
unfolding Leads
put_on-requires c = rw c.in-On.is at c.in_ok-row_way.ensures

pub put_anew-requires : goal.put_anew-requires
unfolding Leads
put_anew-requires c = rw c.in-Anew.is at c.in_ok-row_way.ensures

pub returns-in-On : goal.returns-in-On
unfolding Leads
returns-in-On c =
    let o = rw c.in-On.is at c.in_ok-row_way.ensures in
    let d = row_done _ _ _ o.number _ _ c.put_on.ensures.taken in
    record { answered = d.0; record_after = d.1.0; table_after = d.1.1 }

pub returns-in-Anew : goal.returns-in-Anew
unfolding Leads
returns-in-Anew c =
    let o = rw c.in-Anew.is at c.in_ok-row_way.ensures in
    let d = row_done _ _ _ o.number _ _ c.put_anew.ensures in
    record { answered = d.0; record_after = d.1.0; table_after = d.1.1 }
