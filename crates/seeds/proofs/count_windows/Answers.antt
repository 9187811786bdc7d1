-- `seeds::count_windows` meets its contract.
-- Assumes nothing.
use Rattle.std.proofs.Common.{arith}
use Rattle.std.proofs.lemmas.List.{length-map}
use Rattle.seeds.proofs.Windows.{counting_start, counting_next, counting_end}
use Rattle.seeds.proofs.count_windows.Goals as goal

pub loop-i-init : goal.loop-i-init
loop-i-init g c = counting_start _

pub loop-i-preserved : goal.loop-i-preserved
loop-i-preserved g c =
    rw c.from-n.ensures
    (counting_next _ _ _ c.loop-i.invariant (omega (arith, length-map c.args.rows.now g.R.Row.number)) _ (rw (c.row_at.ensures, c.row_at-in-loop-i.ensures) at c.together.ensures))

pub returns : goal.returns
returns g c = counting_end _ _ _ c.loop-i.invariant (omega (arith, length-map c.args.rows.now g.R.Row.number))
