-- `missing::Holes::walk` meets its contract: what stands in the output and what the holes from i on leave are the whole answer.
-- Assumes nothing.
use Rattle.missing.specs.Missing.{missing_from, missing_select}
use Rattle.missing.proofs.Walking.{going_start, going_next, going_end, going_full, hole_inside, holes_passed, hole_at}
use Rattle.missing.proofs.Holes.walk.Goals as goal

pub loop-i-init : goal.loop-i-init
unfolding missing_from missing_select
loop-i-init c = going_start _ _ _ (rw (c.from.ensures, c.from-2.ensures, c.before-first.ensures))

pub returns-then-at-end : goal.returns-then-at-end
returns-then-at-end c = going_full _ _ _ c.loop-i.invariant c.if-at-end.true

pub loop-i-preserved : goal.loop-i-preserved
loop-i-preserved c =
    let l = c.loop-i-test.true in
    going_next _ _ _ c.loop-i.invariant _ (hole_inside _ _ _ l) (hole_at _ _ _ l (rw (c.from-hole.ensures, c.read16.ensures, c.from-in-loop-i.ensures))) c.up_to-at.ensures

pub returns : goal.returns
returns c = going_end _ _ _ c.loop-i.invariant (holes_passed _ _ _ c.loop-i-test.false) c.up_to.ensures
