-- `bitmap::Bitmap::rows_below` meets its contract.
-- Assumes nothing.
use Rattle.std.proofs.Common.{◌∙◌}
use Rattle.bitmap.proofs.Readings.{below_at}
use Rattle.bitmap.proofs.Bitmap.rows_below.Goals as goal

pub returns : goal.returns
returns c =
    below_at _ c.args.self.now.bytes _ _ c.requires (c.from-stated.ensures ∙ c.read16.ensures) c.ones_in.ensures c.word_at.ensures c.ones_below.ensures.0
