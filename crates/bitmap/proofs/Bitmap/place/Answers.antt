-- `bitmap::Bitmap::place` meets its contract.
-- Assumes nothing.
use Rattle.bitmap.proofs.Readings.{place_outside, place_inside}
use Rattle.bitmap.proofs.Bitmap.place.Goals as goal

pub returns-then-self-p : goal.returns-then-self-p
returns-then-self-p c = rw c.from.ensures (place_outside _ _ _ _ c.if-self-p.true)

pub returns : goal.returns
returns c = place_inside _ _ _ _ c.if-self-p.false c.rows_below.ensures c.is_row.ensures
