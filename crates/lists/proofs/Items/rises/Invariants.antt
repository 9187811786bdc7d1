-- `lists::Items::rises` meets its contract: the flag is the test of the pairs so far.
-- Assumes nothing.
use Rattle.fields.specs.Le.{width_of}
use Rattle.lists.specs.Lists.{item}
use Rattle.lists.proofs.Climbing.{Climbing}
use Rattle.lists.proofs.Items.rises.Given as goal

abbrev pub invariant-loop-i : goal.invariant-loop-i
invariant-loop-i l = Climbing (item (width_of l.self.wide) l.self.body.now) l.last l.ok l.i
