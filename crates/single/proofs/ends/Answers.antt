-- `single::ends` meets its contract.
-- Assumes nothing.
use Rattle.std.proofs.Common.{◌∙◌, ap₂, arith}
use Rattle.model.specs.Tests.{both}
use Rattle.model.proofs.Counted.{and_both, counted_count}
use Rattle.forms.proofs.Laws.{local_sized_lem, local_counted, local_place_lem}
use Rattle.single.proofs.Laws.{present_is}
use Rattle.single.proofs.ends.Goals as goal

pub place-first-requires : goal.place-first-requires
place-first-requires c = local_sized_lem _ _ _ _ c.requires

pub overflow_sub-span : goal.overflow_sub-span
overflow_sub-span c = let k = counted_count _ _ (local_counted _ _ _ _ c.requires) in omega (arith, k.some, k.within)

pub place-last-requires : goal.place-last-requires
place-last-requires c = local_sized_lem _ _ _ _ c.requires

pub returns : goal.returns
returns c =
    and_both _ _
    ∙ ap₂ both (present_is _ 0 (c.place-first.ensures ∙ local_place_lem _ _ _ _ c.requires (λ i. (c.type_inv.part i).fits) 0)) (present_is _ _ (c.place-last.ensures ∙ local_place_lem _ _ _ _ c.requires (λ i. (c.type_inv.part i).fits) _))
