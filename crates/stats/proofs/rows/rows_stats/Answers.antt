-- `stats::rows::rows_stats` meets its contract.
-- Assumes nothing.
use mathlib.Core.List.{map}
use Prim.Native.Nat.{◌-◌}
use native.Mathlib.Omega.{arith}
use lib.ListN.{length, length-map}
use Rattle.model.proofs.Positions.{length_positions}
use Rattle.stats.specs.Statistics.{stats_of}
use Rattle.stats.proofs.Ones.{position_at}
use Rattle.stats.proofs.rows.rows_stats.Goals as goal

pub returns : goal.returns
unfolding stats_of
returns g c =
    let rows = map g.R.Row.number c.args.rows.now in
    let some = c.requires.some in
    let l = length-map c.args.rows.now g.R.Row.number in
    let first = position_at c.args.start rows 0 some c.position.ensures c.row_at.ensures in
    let last = position_at c.args.start rows (length c.args.rows.now - 1) (omega (arith, l)) c.position-2.ensures c.row_at-2.ensures in
    rw (first, last, c.count_runs-runs.ensures, length_positions c.args.start rows, l)
