-- `gather::quick::put_anew` meets its contract.
-- Assumes nothing.
use Rattle.std.proofs.Common.{◌≡◌, ◌+◌, ◌-◌, sym, arith}
use Rattle.gather_core.specs.Gather.{added_to}
use Rattle.gather_core.proofs.Admitted.{added_begins, begins_fits}
use Rattle.gather.proofs.quick.put_anew.Goals as goal

pub overflow_add-next : goal.overflow_add-next
overflow_add-next c = let f = begins_fits _ _ _ c.requires in omega arith

pub end_of-requires : goal.end_of-requires
end_of-requires c = (begins_fits _ _ _ c.requires).1

pub offset_bounds-table-g : goal.offset_bounds-table-g
offset_bounds-table-g c = let f = begins_fits _ _ _ c.requires in omega arith

pub bounds-table-g : goal.bounds-table-g
bounds-table-g c = let f = begins_fits _ _ _ c.requires in omega arith

pub overflow_add-next-2 : goal.overflow_add-next-2
overflow_add-next-2 c = let f = begins_fits _ _ _ c.requires in omega arith

pub returns : goal.returns
unfolding added_to
returns c =
    let g = c.args.g.now in
    let e = added_begins g c.args.row c.requires.in_seed in
    let back : g.entries + 1 - 1 ≡ g.entries = omega arith in
    (sym e, rw (c.end_of.ensures, e, back))
