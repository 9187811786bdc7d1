-- `gather::quick::follows` meets its contract.
-- Assumes nothing.
use Rattle.std.proofs.Common.{arith}
use Rattle.gather_core.proofs.Admitted.{follows, followed_all}
use Rattle.gather.proofs.quick.follows.Goals as goal

pub returns-then-g-2 : goal.returns-then-g-2
returns-then-g-2 c = ((λ e. grind (arith, follows)), (λ e f. let k = followed_all _ _ _ f in grind arith))

pub returns-else-g-2 : goal.returns-else-g-2
returns-else-g-2 c = ((λ e. grind (arith, follows)), (λ e f. let k = followed_all _ _ _ f in grind arith))
