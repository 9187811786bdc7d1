-- `seeds::seeds_fit` meets its contract.
-- Assumes nothing.
use Rattle.std.proofs.Common.{◌∙◌}
use Rattle.std.proofs.lemmas.List.{length-map}
use Rattle.model.proofs.Counted.{test_is}
use Rattle.seeds.proofs.Ends.{unfit, fit_by}
use Rattle.seeds.proofs.seeds_fit.Goals as goal

pub returns-then-ends_rise : goal.returns-then-ends_rise
returns-then-ends_rise g c =
    fit_by _ _ c.requires (rw length-map (test_is c.ends_rise.ensures c.if-ends_rise.true)) _ c.seeds_near.ensures

pub returns-else-ends_rise : goal.returns-else-ends_rise
returns-else-ends_rise g c =
    c.if-ends_rise.false ∙ unfit _ _ c.requires (rw length-map (test_is c.ends_rise.ensures c.if-ends_rise.false))
