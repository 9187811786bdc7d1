-- `tables::segments` meets its contract: the number of entries says how far the table is filled, and a refusal leaves it.
use Rattle.std.proofs.Common.{◌≡◌, sym, ap, ◌∙◌, length, ℕ, List, arith, Ok, Err}
use Rattle.model.specs.declared.refusal.Refusal.{Refusal}
use Rattle.directory.specs.declared.Segment.{Segment}
use Rattle.rowset.specs.Calls.{filled_of}
use Rattle.tables.specs.Tables.{written_in, segments_answer, segments_left}
use Rattle.tables.proofs.Filling.{Counted, counted_is, fill_none, fill_next}
use Rattle.tables.proofs.segments.Goals as goal

-- what an answer means for the table
counted : (tag span n : ℕ) (xs : List ℕ) (old : List Segment) → filled_of (Ok n) ≡ segments_answer tag span xs (length old) → Counted tag span xs old n
unfolding filled_of written_in
counted tag span n xs old e = counted_is tag span xs old (ap written_in e)

kept : (tag span : ℕ) (r : Refusal) (xs : List ℕ) (old : List Segment) → filled_of (Err r) ≡ segments_answer tag span xs (length old) → old ≡ segments_left tag span xs old
unfolding filled_of written_in
kept tag span r xs old e = sym (fill_none xs old) ∙ (counted_is tag span xs old (ap written_in e)).left

pub returns-in_err-n-clause-table_after : goal.returns-in_err-n-clause-table_after
returns-in_err-n-clause-table_after c = kept _ _ _ c.args.body.now c.args.table.now c.in_err-n.ensures

pub loop-i-init : goal.loop-i-init
loop-i-init c = sym (fill_none _ _)

pub new-requires : goal.new-requires
new-requires c = ((counted _ _ _ c.args.body.now c.args.table.now c.in_ok-n.ensures).inside c.loop-i.i c.loop-i-test.true).0

pub offset_bounds-table-i : goal.offset_bounds-table-i
offset_bounds-table-i c =
    let inside = (counted _ _ _ c.args.body.now c.args.table.now c.in_ok-n.ensures).inside c.loop-i.i c.loop-i-test.true in
    omega arith

pub bounds-table-i : goal.bounds-table-i
bounds-table-i c =
    let inside = (counted _ _ _ c.args.body.now c.args.table.now c.in_ok-n.ensures).inside c.loop-i.i c.loop-i-test.true in
    omega arith

pub loop-i-preserved : goal.loop-i-preserved
loop-i-preserved c =
    let next = fill_next c.args.body.now c.loop-i.i c.args.table.now in
    cc (rw c.new.ensures.body at c.entry.ensures)

pub returns-clause-table_after : goal.returns-clause-table_after
returns-clause-table_after c =
    let left = (counted _ _ _ c.args.body.now c.args.table.now c.in_ok-n.ensures).left in
    let e : c.loop-i.i ≡ c.in_ok-n.n = omega arith in
    cc
