-- `single::Single::walk` meets its contract.
-- Assumes nothing.
use Rattle.single.specs.Single.{view_walk}
use Rattle.model.proofs.Taking.{tail_is}
use Rattle.single.proofs.Single.walk.Goals as goal

pub returns : goal.returns
unfolding view_walk
returns c = rw (tail_is _ _) at c.walk.ensures
