-- `gather_core::paging::put_page` meets its contract.
-- Assumes nothing.
use Rattle.std.proofs.Common.{sym, ◌∙◌}
use Rattle.model.proofs.Counted.{test_is}
use Rattle.gather_core.proofs.Pages.{paged_rows, paged_rows_to}
use Rattle.gather_core.proofs.paging.put_page.Goals as goal

pub put_rows-requires : goal.put_rows-requires
put_rows-requires c = (c.requires.counted, rw (← paged_rows c.args.g c.args.rows.now (test_is c.one_seed.ensures c.if-one_seed.false)) c.requires.in_room)

pub returns-else-one_seed : goal.returns-else-one_seed
returns-else-one_seed c =
    let many = test_is c.one_seed.ensures c.if-one_seed.false in
    let w = c.put_rows.ensures in
    (w.0 ∙ sym (paged_rows _ _ many), w.1 ∙ sym (paged_rows_to _ _ _ many))
