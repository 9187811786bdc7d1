-- Item after item stands.
-- Assumes nothing.
use Rattle.std.proofs.Common.{map}
use Rattle.fields.specs.Le.{width_of}
use Rattle.model.specs.Lists.{positions_of}
use Rattle.emit.proofs.Pieces.{Items}
use Rattle.emit_rows.proofs.list_rows.Given as goal

abbrev pub invariant-loop-row : goal.invariant-loop-row
invariant-loop-row g l = Items (width_of l.wide) (positions_of l.base (map g.R.Row.number l.rows)) l.fn.out l.at l.p l.row-index l.out
