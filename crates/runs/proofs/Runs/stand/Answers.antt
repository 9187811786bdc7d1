-- `runs::Runs::stand` meets its contract.
-- Assumes nothing.
use Rattle.std.proofs.Common.{arith}
use Rattle.runs.proofs.Table.{standing_start, standing_next, standing_end}
use Rattle.runs.proofs.Runs.stand.Goals as goal

pub loop-i-init : goal.loop-i-init
loop-i-init c = standing_start _ _ _ _

pub loop-i-preserved : goal.loop-i-preserved
loop-i-preserved c =
    rw (c.from-start.ensures, c.from-size.ensures)
    (standing_next _ _ _ _ c.loop-i.invariant c.loop-i-test.true c.read-e.ensures (omega arith) c.fits-ok.ensures)

pub returns : goal.returns
returns c = rw c.from.ensures (standing_end _ _ _ _ _ c.loop-i.invariant c.loop-i-test.false)
