-- `gather_core::paging::put_seed` meets its contract.
-- Assumes nothing.
use Rattle.std.proofs.Common.{sym, ap, ◌∙◌, arith}
use Rattle.gather_core.specs.declared.Gatherer.{Gatherer}
use Rattle.gather_core.specs.Gather.{seeded}
use Rattle.gather_core.proofs.Pages.{paged-one, paged_one_to}
use Rattle.gather_core.proofs.paging.put_seed.Goals as goal

pub end_of-requires : goal.end_of-requires
unfolding seeded
end_of-requires c = rw c.seeded-next.ensures c.requires.0.counted.few

pub bounds-table-at : goal.bounds-table-at
unfolding seeded
bounds-table-at c = omega (arith, c.requires.0.in_room, ap (λ (x : Gatherer). x.entries) (paged-one c.args.g c.args.rows.now c.requires.1))

pub returns : goal.returns
unfolding seeded
returns c =
    let one = c.requires.1 in
    let e = c.seeded-next.ensures in
    (e ∙ sym (paged-one _ _ one), rw (c.end_of.ensures, e) (sym (paged_one_to _ _ _ one)))
