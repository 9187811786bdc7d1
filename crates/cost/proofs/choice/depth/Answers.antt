-- The digits are what the leading zeros leave.
-- Assumes nothing.
use Rattle.std.proofs.Common.{arith}
use Rattle.cost.proofs.Depths.{depth_leading}
use Rattle.cost.proofs.choice.depth.Goals as goal

pub returns : goal.returns
returns c = depth_leading 64 _ (omega arith)
