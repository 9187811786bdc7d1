-- `stats::one_if` meets its contract.
-- Assumes nothing.
use Rattle.stats.proofs.Ones.{one}
use Rattle.stats.proofs.one_if.Goals as goal

pub returns : goal.returns
returns c = rw c.from.ensures (one c.args.t)
