-- `directory::counted` meets its contract: a count of two bytes is at most 65,535.
-- Assumes nothing.
use Rattle.std.proofs.Common.{arith}
use Rattle.directory.proofs.Checking.{counted_is}
use Rattle.directory.proofs.counted.Goals as goal

pub returns : goal.returns
returns c = rw c.from.ensures (counted_is _ _ (omega arith))
