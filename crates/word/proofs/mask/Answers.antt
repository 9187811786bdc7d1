-- `word::mask` meets its contract.
-- Assumes nothing.
use Rattle.word.proofs.Masks.{mask_shifts}
use Rattle.word.proofs.mask.Goals as goal

pub returns : goal.returns
returns c = mask_shifts _ _ c.requires.0 c.requires.1
