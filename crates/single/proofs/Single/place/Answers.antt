-- `single::Single::place` meets its contract: below the base nothing stands.
-- Assumes nothing.
use Rattle.std.proofs.Common.{sym, ◌∙◌, arith, le-ltb, lt-ltb}
use Rattle.model.proofs.Tests.{pick_true, pick_false}
use Rattle.single.specs.Single.{view_place}
use Rattle.model.proofs.Taking.{tail_is}
use Rattle.single.proofs.Single.place.Goals as goal

pub returns-in_default : goal.returns-in_default
unfolding view_place
returns-in_default c = sym (pick_true _ _ (lt-ltb _ _ (omega (arith, c.in_default.ensures))))

pub returns : goal.returns
unfolding view_place
returns c = rw c.in-Some.ensures.1 at (rw (tail_is _ _) at c.place.ensures) ∙ sym (pick_false _ _ (le-ltb _ _ c.in-Some.ensures.0))
