-- The seeds so far are short enough, as far as the flag says, and the next one starts at a.
-- Assumes nothing.
use Rattle.std.proofs.Common.{map}
use Rattle.seeds.proofs.Ends.{Nearing}
use Rattle.seeds.proofs.seeds_near.Given as goal

abbrev pub invariant-loop-end : goal.invariant-loop-end
invariant-loop-end g l = Nearing (map g.R.Row.number l.rows) l.seeds l.ok l.a l.end-index
