-- `search::upper` meets its contract: the loop closes in, and the answer stays.
-- Assumes nothing.
use Rattle.std.proofs.Common.{◌+◌}
use Rattle.fields.specs.Le.{width_of}
use Rattle.search.specs.Search.{up_to, entry}
use Rattle.search.proofs.Laws.{Searching}
use Rattle.search.proofs.upper.Given as goal

abbrev pub invariant-loop-len : goal.invariant-loop-len
invariant-loop-len l = Searching (up_to l.gaps (entry (width_of l.wide) l.body l.base l.stride) l.key) l.n l.lo (l.lo + l.len)

abbrev pub decreases-loop-len : goal.decreases-loop-len
decreases-loop-len l = l.len
