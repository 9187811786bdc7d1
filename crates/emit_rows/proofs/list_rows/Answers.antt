-- `emit_rows::list_rows` meets its contract: item after item.
-- Assumes nothing.
use mathlib.Core.Path.{◌≡◌}
use mathlib.Core.List.{map}
use Prim.Native.Nat.{◌<◌}
use lib.ListN.{length, get_or}
use Rattle.model.proofs.Positions.{length_positions}
use Rattle.emit.proofs.Pieces.{items_room, items_next, items_end}
use Rattle.emit.proofs.Passing.{row_inside, row_first}
use Rattle.emit.proofs.Loops.{row_at}
use Rattle.emit_rows.proofs.Reading.{inside, past, number_at}
use Rattle.emit_rows.proofs.list_rows.Goals as goal

pub position-requires : goal.position-requires
position-requires g c =
    let e : c.wide.result ≡ get_or (map g.R.Row.number c.args.rows.now) c.loop-row.row-index 0 = number_at g.R.Row.number c.args.rows.now _ c.loop-row-test.true c.row-item.is c.wide.ensures in
    rw e (row_at c.requires.0 _ (inside g.R.Row.number c.args.rows.now c.loop-row-test.true))

pub put_field-requires : goal.put_field-requires
put_field-requires g c = items_room _ _ _ _ c.loop-row.invariant (row_inside _ _ (inside g.R.Row.number c.args.rows.now c.loop-row-test.true)) c.requires.1

pub loop-row-preserved : goal.loop-row-preserved
loop-row-preserved g c =
    let e : c.wide.result ≡ get_or (map g.R.Row.number c.args.rows.now) c.loop-row.row-index 0 = number_at g.R.Row.number c.args.rows.now _ c.loop-row-test.true c.row-item.is c.wide.ensures in
    let rows = map g.R.Row.number c.args.rows.now in
    let h : c.loop-row.row-index < length rows = inside g.R.Row.number c.args.rows.now c.loop-row-test.true in
    items_next _ _ _ _ c.loop-row.invariant (row_inside _ _ h) (row_first c.args.base rows h (rw e at c.position.ensures)) c.put_field.ensures (rw c.width-w.ensures.0)

pub returns : goal.returns
returns g c = items_end _ _ _ _ c.loop-row.invariant (rw length_positions (past g.R.Row.number c.args.rows.now c.loop-row-test.false))
