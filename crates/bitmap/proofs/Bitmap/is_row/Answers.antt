-- `bitmap::Bitmap::is_row` meets its contract.
-- Assumes nothing.
use Rattle.bitmap.proofs.Readings.{row_at}
use Rattle.bitmap.proofs.Bitmap.is_row.Goals as goal

pub returns : goal.returns
returns c = row_at _ c.args.self.now.bytes _ _ c.requires c.word_at.ensures c.is_set.ensures
