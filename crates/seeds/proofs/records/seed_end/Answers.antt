-- `seeds::records::seed_end` meets its contract.
-- Assumes nothing.
use Rattle.std.proofs.Common.{arith}
use Rattle.std.proofs.lemmas.List.{length-map}
use borrow.Author.Tests.{eqb-true, eqb-false}
use Rattle.model.proofs.Counted.{test_is}
use Rattle.seeds.proofs.Placing.{begun_inside, window_ends, given_inside, given_end}
use Rattle.seeds.proofs.records.seed_end.Goals as goal

pub window_end-requires : goal.window_end-requires
window_end-requires g c = omega (arith, begun_inside _ _ _ _ c.requires, length-map c.args.rows.now g.R.Row.number)

pub offset_bounds-seeds-i : goal.offset_bounds-seeds-i
offset_bounds-seeds-i g c = omega (arith, given_inside _ _ _ _ c.requires (eqb-false _ _ (test_is c.is_empty.ensures c.if-is_empty.false)))

pub bounds-seeds-i : goal.bounds-seeds-i
bounds-seeds-i g c = given_inside _ _ _ _ c.requires (eqb-false _ _ (test_is c.is_empty.ensures c.if-is_empty.false))

pub returns-then-is_empty : goal.returns-then-is_empty
returns-then-is_empty g c = window_ends _ _ _ _ c.requires (eqb-true _ _ (test_is c.is_empty.ensures c.if-is_empty.true)) _ c.window_end.ensures

pub returns-else-is_empty : goal.returns-else-is_empty
returns-else-is_empty g c = given_end _ _ _ _ c.requires (eqb-false _ _ (test_is c.is_empty.ensures c.if-is_empty.false)) _ c.from.ensures
