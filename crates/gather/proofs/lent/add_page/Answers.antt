-- `gather::lent::add_page` meets its contract.
-- Assumes nothing.
use Rattle.std.proofs.Common.{arith}
use Rattle.gather_core.proofs.Pages.{page_admitted}
use Rattle.gather.proofs.Taken.{page_done}
use Rattle.gather.proofs.lent.add_page.Goals as goal

pub put_page-requires : goal.put_page-requires
put_page-requires c =
    let o = rw c.copied.ensures at (c.goes_in.ensures c.if-goes_in.true) in
    page_admitted _ _ (λ z. omega (arith, o.any)) _ o.number

pub returns-then-goes_in : goal.returns-then-goes_in
returns-then-goes_in c =
    let d = page_done _ _ _ (rw c.copied.ensures at (c.goes_in.ensures c.if-goes_in.true)) _ _ c.put_page.ensures in
    record { answered = d.0; record_after = d.1.0; table_after = d.1.1 }
