-- `gather::quick::put_on` meets its contract.
-- Assumes nothing.
use Rattle.std.proofs.Common.{sym, arith}
use Rattle.gather_core.specs.Gather.{added_to}
use Rattle.gather_core.proofs.Admitted.{added-joins, goes_on-fits}
use Rattle.gather.proofs.Taken.{together}
use Rattle.gather.proofs.quick.put_on.Goals as goal

pub overflow_add-rows : goal.overflow_add-rows
overflow_add-rows c = let f = goes_on-fits _ _ _ c.requires in omega arith

pub end_of-requires : goal.end_of-requires
end_of-requires c = (goes_on-fits _ _ _ c.requires).2

pub overflow_sub-table : goal.overflow_sub-table
overflow_sub-table c = (goes_on-fits _ _ _ c.requires).0

pub offset_bounds-table-g : goal.offset_bounds-table-g
offset_bounds-table-g c = let f = goes_on-fits _ _ _ c.requires in omega arith

pub bounds-table-g : goal.bounds-table-g
bounds-table-g c = let f = goes_on-fits _ _ _ c.requires in omega arith

pub returns-clause-taken : goal.returns-clause-taken
unfolding added_to
returns-clause-taken c =
    let e = added-joins c.args.g.now c.args.row c.requires.in_seed in
    (sym e, rw (c.end_of.ensures, e))

pub returns-clause-others_unchanged : goal.returns-clause-others_unchanged
returns-clause-others_unchanged c = together _ _ _ c.requires _ (sym (added-joins c.args.g.now c.args.row c.requires.in_seed))
