-- `word::half_of` meets its contract: the wanted place is in the low half where the low half has more set places than k.
-- Assumes nothing.
use Rattle.std.proofs.Common.{arith}
use Rattle.word.proofs.Halves.{low_half, high_half}
use Rattle.word.proofs.half_of.Goals as goal

pub returns-then-k-low : goal.returns-then-k-low
returns-then-k-low c = low_half _ _ _ _ c.requires.0 c.requires.1 (omega arith)

pub returns-else-k-low : goal.returns-else-k-low
returns-else-k-low c = high_half _ _ _ _ c.requires.0 c.requires.1 _ c.ones_below-low.ensures.0 c.if-k-low.false
