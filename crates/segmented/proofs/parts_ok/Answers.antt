-- `segmented::parts_ok` meets its contract.
-- Assumes nothing.
use Rattle.std.proofs.Common.{arith, refl}
use Rattle.model.specs.Tests.{all}
use Rattle.model.proofs.Counted.{flag_step}
use Rattle.directory.proofs.Parts.{accepts_directory}
use Rattle.segmented.specs.Segmented.{part_accepts}
use Rattle.segmented.proofs.Laws.{part_inside, part_checked}
use Rattle.segmented.proofs.parts_ok.Goals as goal

pub segments-n-requires : goal.segments-n-requires
segments-n-requires c = omega (arith, (accepts_directory _ _ c.requires).room)

pub loop-i-init : goal.loop-i-init
unfolding all
loop-i-init c = refl

pub new-directory-requires : goal.new-directory-requires
new-directory-requires c = omega (arith, (accepts_directory _ _ c.requires).room, c.segments-n.ensures.0)

pub entry-e-requires : goal.entry-e-requires
entry-e-requires c = rw c.new-directory.ensures.n c.loop-i-test.true

pub cut-requires : goal.cut-requires
cut-requires c = part_inside _ _ _ c.requires (omega (arith, c.segments-n.ensures.0)) (rw c.new-directory.ensures.body at c.entry-e.ensures)

pub loop-i-preserved : goal.loop-i-preserved
loop-i-preserved c =
    flag_step (part_accepts _) _ c.loop-i.invariant
    (part_checked _ _ (rw c.new-directory.ensures.body at c.entry-e.ensures) (rw (c.cut.ensures, c.from.ensures) at c.check-ok.ensures))
