-- `stats::rows::count_runs` meets its contract.
-- Assumes nothing.
use mathlib.Core.Path.{◌∙◌}
use mathlib.Core.List.{map}
use native.Mathlib.Omega.{arith}
use lib.ListN.{length-map}
use Rattle.model.specs.Lists.{positions_of}
use Rattle.model.proofs.Positions.{length_positions}
use Rattle.stats.proofs.RunByRun.{counting_start, counting_next, counting_end}
use Rattle.stats.proofs.Ones.{steps_apart}
use Rattle.stats.proofs.Positions.{count_positions}
use Rattle.stats.proofs.rows.count_runs.Goals as goal

pub loop-i-init : goal.loop-i-init
loop-i-init g c = counting_start _ (count_positions c.requires)

pub loop-i-preserved : goal.loop-i-preserved
loop-i-preserved g c =
    let rows = map g.R.Row.number c.args.rows.now in
    let l = length-map c.args.rows.now g.R.Row.number in
    let apart = steps_apart c.args.start rows c.loop-i.i c.requires c.loop-i.auto.i (omega (arith, l)) c.step_to.type_inv c.step_to.ensures in
    counting_next _ _ _ c.loop-i.invariant (omega (arith, l, length_positions c.args.start rows)) (c.from-runs.ensures ∙ apart)

pub returns : goal.returns
returns g c =
    let rows = map g.R.Row.number c.args.rows.now in
    counting_end (positions_of c.args.start rows) _ _ c.loop-i.invariant (omega (arith, length-map c.args.rows.now g.R.Row.number, length_positions c.args.start rows))
