-- `assemble::place_rows` meets its contract: the payload, and the entry before it.
-- Assumes nothing.
use lib.ListN.{length-map}
use Rattle.assemble.proofs.Placing.{piece_asks, piece_entry, piece_placed}
use Rattle.assemble.proofs.place_rows.Goals as goal

pub local_rows-r-requires : goal.local_rows-r-requires
local_rows-r-requires g c = rw (c.row_at.ensures, ← length-map c.args.rows.now g.R.Row.number) (piece_asks _ _ c.requires c.local_form-f.ensures)

pub entry-requires : goal.entry-requires
entry-requires g c = piece_entry _ _ c.requires c.local_form-f.ensures (rw c.row_at.ensures at c.local_rows-r.ensures)

pub returns : goal.returns
returns g c = piece_placed _ _ _ _ c.local_form-f.ensures (rw c.row_at.ensures at c.local_rows-r.ensures) c.directory_size.ensures c.entry.ensures c.put_entry.ensures
