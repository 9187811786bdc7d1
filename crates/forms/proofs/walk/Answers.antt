-- `forms::walk` meets its contract: each form finds what it reads inside the body.
-- Assumes nothing.
use Rattle.std.proofs.Common.{true, false, arith, rules}
use Rattle.model.specs.Tests.{pick}
use Rattle.model.proofs.Writing.{walks_none}
use Rattle.forms.specs.Forms.{list_tag, by_tag, local_walk}
use Rattle.forms.proofs.Sized.{sized_list, sized_bitmap, sized_missing}
use Rattle.forms.proofs.walk.Goals as goal

pub new-requires : goal.new-requires
unfolding list_tag
new-requires c = omega (arith, sized_list _ _ _ _ c.requires true c.in-2.is)

pub new-requires-in-3 : goal.new-requires-in-3
unfolding list_tag
new-requires-in-3 c = omega (arith, sized_list _ _ _ _ c.requires false c.in-3.is)

pub new-requires-in-6 : goal.new-requires-in-6
new-requires-in-6 c = sized_bitmap _ _ _ _ c.requires c.in-6.is

pub holes-requires : goal.holes-requires
holes-requires c = let s = sized_missing _ _ _ _ c.requires c.in-7.is in (s.narrow, s.within, omega (arith, s.exact))

pub returns-in_default : goal.returns-in_default
unfolding local_walk by_tag pick
returns-in_default c = walks_none _ (search rules)
