-- `assemble::summarize` meets its contract: `Summing` holds at each cut.
-- Assumes nothing.
use Rattle.assemble.proofs.Summing.{first_sound, begun, adds, added, summed}
use Rattle.assemble.proofs.summarize.Goals as goal

pub one-sum-requires : goal.one-sum-requires
one-sum-requires c = rw c.segment.ensures (first_sound c.requires)

pub loop-x-init : goal.loop-x-init
loop-x-init c = rw (c.one-sum.ensures, c.segment.ensures, c.next-x.ensures.0) (begun c.requires)

pub also-sum-requires : goal.also-sum-requires
also-sum-requires c = rw c.segment-in-loop-x.ensures (adds c.loop-x.invariant c.requires.seeds c.loop-x-test.true)

pub loop-x-preserved : goal.loop-x-preserved
loop-x-preserved c = rw (c.also-sum.ensures, c.segment-in-loop-x.ensures, c.next-x-in-loop-x.ensures.0) (added c.loop-x.invariant c.requires.seeds c.loop-x-test.true)

pub returns : goal.returns
returns c = rw c.finish.ensures (summed c.loop-x.invariant c.loop-x-test.false)
