-- The tuples are the lists of the two keys.
-- Assumes nothing.
use Rattle.cost.specs.Forms.{key_of}
use Rattle.cost.proofs.Tuples.{five}
use Rattle.cost.proofs.choice.costs_less.Goals as goal

pub returns : goal.returns
unfolding key_of
returns c = let f = c.args.f in let g = c.args.g in
    rw (c.lt.ensures, c.key.ensures, c.key-2.ensures) (five f.bytes f.depth f.words _ g.bytes g.depth g.words _ f.trimmed g.trimmed)
