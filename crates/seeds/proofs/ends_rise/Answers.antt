-- `seeds::ends_rise` meets its contract.
-- Assumes nothing.
use Rattle.std.proofs.Common.{map-id}
use Rattle.seeds.proofs.Ends.{ends_tested}
use Rattle.seeds.proofs.ends_rise.Goals as goal

pub returns : goal.returns
returns c = ends_tested _ _ _ _ c.from-last.ensures (rw map-id at c.rise.ensures)
