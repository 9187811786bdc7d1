-- `fields::put16` meets its contract: std's bytes of the number are its digits.
-- Assumes nothing.
use Rattle.std.proofs.Common.{◌∙◌}
use Rattle.fields.proofs.Laws.{put_part}
use Rattle.fields.proofs.put16.Goals as goal

pub returns : goal.returns
returns c = put_part 2 _ _ _ _ c.requires (c.copy_from_slice.ensures.after ∙ c.to_le_bytes.ensures)
