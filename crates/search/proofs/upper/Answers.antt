-- `search::upper` meets its contract: the loop closes in, and the answer stays.
-- Assumes nothing.
use Rattle.std.proofs.Common.{arith}
use Rattle.search.specs.Search.{up_to, entry}
use Rattle.search.proofs.Laws.{searching_next, searching_end}
use Rattle.search.proofs.upper.Goals as goal

pub loop-len-preserved : goal.loop-len-preserved
unfolding entry up_to
loop-len-preserved c = searching_next _ _ _ _ c.loop-len.invariant c.loop-len-test.true (rw c.field.ensures at c.reached-up.ensures.0)

pub returns : goal.returns
returns c = searching_end _ _ _ _ c.loop-len.invariant (omega arith)
