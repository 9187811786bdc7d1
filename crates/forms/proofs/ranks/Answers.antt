-- `forms::ranks` meets its contract: each form finds what it reads inside the body.
-- Assumes nothing.
use Rattle.std.proofs.Common.{◌≡◌, true, false, arith, rules, sym, ◌∙◌}
use mathlib.Core.Bool.{true≢false}
use Rattle.model.specs.Tests.{pick}
use Rattle.forms.specs.Forms.{list_tag, by_tag, local_accepts}
use Rattle.forms.proofs.Sized.{sized_list, sized_bitmap, sized_missing}
use Rattle.forms.proofs.Laws.{local_sized_lem}
use Rattle.forms.proofs.ranks.Goals as goal

pub new-requires : goal.new-requires
unfolding list_tag
new-requires c = omega (arith, sized_list _ _ _ _ (local_sized_lem _ _ _ _ c.requires.0) true c.in-2.is)

pub new-requires-in-3 : goal.new-requires-in-3
unfolding list_tag
new-requires-in-3 c = omega (arith, sized_list _ _ _ _ (local_sized_lem _ _ _ _ c.requires.0) false c.in-3.is)

pub new-requires-in-6 : goal.new-requires-in-6
new-requires-in-6 c = sized_bitmap _ _ _ _ (local_sized_lem _ _ _ _ c.requires.0) c.in-6.is

pub holes-requires : goal.holes-requires
holes-requires c = let s = sized_missing _ _ _ _ (local_sized_lem _ _ _ _ c.requires.0) c.in-7.is in (s.narrow, s.within, omega (arith, s.exact))

pub returns-in_default : goal.returns-in_default
unfolding local_accepts by_tag pick
returns-in_default c =
    let none : local_accepts c.args.tag c.args.body.now c.args.span c.args.count ≡ false = search rules in
    absurd (true≢false (sym c.requires.0 ∙ none))
