-- `gather_core::put_row` meets its contract: the record's last entry stands in the table, and its total fits one.
-- Assumes nothing.
use Rattle.std.proofs.Common.{arith}
use Rattle.gather_core.specs.Gather.{added_to}
use Rattle.gather_core.proofs.Admitted.{after}
use Rattle.gather_core.proofs.put_row.Goals as goal

pub overflow_sub-at : goal.overflow_sub-at
overflow_sub-at c = rw c.added-next.ensures ((after c.args.g c.args.row).some c.requires.0.some)

pub end_of-requires : goal.end_of-requires
end_of-requires c = rw c.added-next.ensures (let a = after c.args.g c.args.row in omega arith)

pub bounds-table-at : goal.bounds-table-at
bounds-table-at c =
    rw c.added-next.ensures
    (let a = after c.args.g c.args.row in
    omega (arith, a.some c.requires.0.some))

pub returns : goal.returns
unfolding added_to
returns c =
    let e = c.added-next.ensures in
    (e, rw (e, c.end_of.ensures, e, (after c.args.g c.args.row).total))
