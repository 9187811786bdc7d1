-- `seeds::count_fits` meets its contract.
-- Assumes nothing.
use Rattle.std.proofs.lemmas.List.{length-map}
use Rattle.model.proofs.Counted.{and_both}
use Rattle.planning.specs.Refusals.{count_fits}
use Rattle.seeds.proofs.count_fits.Goals as goal

pub returns : goal.returns
unfolding count_fits
returns g c = rw length-map (and_both _ _)
