-- `gather_core::paging::put_rows` meets its contract.
-- Assumes nothing.
use Rattle.std.proofs.Common.{le_trans}
use Rattle.gather_core.proofs.Singly.{going_counted, going_room, going_end, filling_next, filling_end}
use Rattle.gather_core.proofs.paging.put_rows.Goals as goal

pub put_row-h-requires : goal.put_row-h-requires
put_row-h-requires c =
    let k = c.loop-row.invariant in
    let l = c.loop-row-test.true in
    (going_counted _ _ _ _ k.going l, le_trans (going_room _ _ _ _ k.going l) (rw k.same c.requires.1))

pub loop-row-preserved : goal.loop-row-preserved
loop-row-preserved c =
    let e = c.put_row-h.ensures in
    rw (e.0, e.1) (filling_next _ _ _ _ _ _ c.loop-row.invariant c.loop-row-test.true)

pub returns : goal.returns
returns c =
    let k = c.loop-row.invariant in
    let l = c.loop-row-test.false in
    (going_end _ _ _ _ k.going l, filling_end _ _ _ _ _ _ k l)
