-- `directory::Directory::stand` meets its contract: one flag loop over the entries.
-- Assumes nothing.
use Rattle.std.proofs.Common.{arith, ◌∙◌}
use Rattle.directory.proofs.Checking.{standing_start, standing_next, standing_end}
use Rattle.directory.proofs.Directory.stand.Goals as goal

pub loop-i-init : goal.loop-i-init
loop-i-init c = standing_start _ _ _

pub loop-i-preserved : goal.loop-i-preserved
loop-i-preserved c =
    rw (c.from.ensures, c.from-in-loop-i.ensures, c.from-rows.ensures, c.from-at.ensures) (standing_next _ _ _ c.loop-i.invariant c.loop-i-test.true c.entry-e.ensures c.nought.ensures (omega arith) (omega arith) c.fits-ok.ensures)

pub returns : goal.returns
returns c = standing_end _ _ _ c.loop-i.invariant c.loop-i-test.false (c.from-count.ensures ∙ c.read16.ensures)
