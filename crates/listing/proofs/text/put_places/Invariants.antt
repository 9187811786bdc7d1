use Rattle.listing.proofs.Spelling.{Placing}
use Rattle.listing.proofs.text.put_places.Given as goal

-- what is left to write, over what is written, is the whole
abbrev pub invariant-loop-left : goal.invariant-loop-left
invariant-loop-left l = Placing l.fn.out l.at l.n l.v l.out l.left l.rest
