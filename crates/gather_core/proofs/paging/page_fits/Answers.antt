-- `gather_core::paging::page_fits` meets its contract.
-- Assumes nothing.
use Rattle.std.proofs.Common.{sym, ◌∙◌, arith, rules}
use Rattle.model.proofs.Tests.{both_right}
use Rattle.gather_core.specs.Gather.{some_number, or_else}
use Rattle.gather_core.proofs.Admitted.{fitting, second_decides}
use Rattle.gather_core.proofs.Pages.{page_early, page_passed, paged_few}
use Rattle.gather_core.proofs.paging.page_fits.Goals as goal

pub returns-in_err-early : goal.returns-in_err-early
unfolding some_number or_else
returns-in_err-early c =
    let e = page_early _ _ _ _ c.in_err-early.ensures c.above.ensures c.rises.ensures in
    search rules

pub overflow_sub-room : goal.overflow_sub-room
overflow_sub-room c = (page_passed _ _ _ _ c.in_ok-early.ensures c.above.ensures c.rises.ensures).able.in_room

pub returns-then-rows-room : goal.returns-then-rows-room
unfolding some_number
returns-then-rows-room c =
    let e = page_early _ _ _ _ c.in_ok-early.ensures c.above.ensures c.rises.ensures in
    let room = (page_passed _ _ _ _ c.in_ok-early.ensures c.above.ensures c.rises.ensures).able.in_room in
    let few = paged_few c.args.g c.args.rows.now c.requires in
    sym (second_decides _ _ (sym e) ∙ fitting _ _ (omega arith))

pub paged-requires : goal.paged-requires
paged-requires c =
    let p = page_passed _ _ _ _ c.in_ok-early.ensures c.above.ensures c.rises.ensures in
    (p.counted, c.requires, both_right _ _ p.rises)

pub returns : goal.returns
unfolding some_number
returns c =
    let e = page_early _ _ _ _ c.in_ok-early.ensures c.above.ensures c.rises.ensures in
    rw (second_decides _ _ (sym e), ← c.paged.ensures) c.late.ensures
