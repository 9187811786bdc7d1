-- `emit_rows::missing_rows` meets its contract: the holes before each run, and those behind the last.
-- Assumes nothing.
use mathlib.Core.Path.{refl}
use mathlib.Core.List.{map}
use Prim.Native.Nat.{◌<◌}
use native.Mathlib.Omega.{arith}
use lib.ListN.{length, length-map}
use Rattle.fields.specs.Le.{width_of}
use Rattle.emit.proofs.Passing.{start_rows}
use Rattle.emit.proofs.Loops.{row_at, ends, missing_ahead, missing_fits, missing_next, missing_last, missing_done}
use Rattle.emit_rows.proofs.Reading.{inside, past}
use Rattle.emit_rows.proofs.missing_rows.Goals as goal

pub loop-i-init : goal.loop-i-init
loop-i-init g c = start_rows _ _ _ _ _ _ c.requires.0

pub position-first-requires : goal.position-first-requires
position-first-requires g c =
    let w = row_at c.requires.0 _ (inside g.R.Row.number c.args.rows.now c.loop-i-test.true) in
    rw c.row_at.ensures (w.0, omega (arith, w.1))

pub overflow_sub-first : goal.overflow_sub-first
overflow_sub-first g c =
    let h : c.loop-i.i < length (map g.R.Row.number c.args.rows.now) = inside g.R.Row.number c.args.rows.now c.loop-i-test.true in
    let a = missing_ahead _ _ _ _ _ c.requires.0 c.requires.1 c.loop-i.invariant h (rw c.row_at.ensures at c.position-first.ensures) c.run_end-j.ensures in
    omega (arith, a.after)

pub list_run-p-requires : goal.list_run-p-requires
unfolding width_of
list_run-p-requires g c =
    let h : c.loop-i.i < length (map g.R.Row.number c.args.rows.now) = inside g.R.Row.number c.args.rows.now c.loop-i-test.true in
    let a = missing_ahead _ _ _ _ _ c.requires.0 c.requires.1 c.loop-i.invariant h (rw c.row_at.ensures at c.position-first.ensures) c.run_end-j.ensures in
    (missing_fits _ _ _ _ _ c.requires.0 c.requires.1 c.loop-i.invariant h (rw c.row_at.ensures at c.position-first.ensures) c.run_end-j.ensures, omega (arith, a.after, a.within))

pub overflow_sub-from : goal.overflow_sub-from
overflow_sub-from g c = omega (arith, ends _ _ (inside g.R.Row.number c.args.rows.now c.loop-i-test.true) c.run_end-j.ensures)

pub overflow_cast-from : goal.overflow_cast-from
overflow_cast-from g c =
    let h : c.loop-i.i < length (map g.R.Row.number c.args.rows.now) = inside g.R.Row.number c.args.rows.now c.loop-i-test.true in
    let a = missing_ahead _ _ _ _ _ c.requires.0 c.requires.1 c.loop-i.invariant h (rw c.row_at.ensures at c.position-first.ensures) c.run_end-j.ensures in
    omega (arith, a.within)

pub overflow_add-from : goal.overflow_add-from
overflow_add-from g c =
    let h : c.loop-i.i < length (map g.R.Row.number c.args.rows.now) = inside g.R.Row.number c.args.rows.now c.loop-i-test.true in
    let a = missing_ahead _ _ _ _ _ c.requires.0 c.requires.1 c.loop-i.invariant h (rw c.row_at.ensures at c.position-first.ensures) c.run_end-j.ensures in
    omega (arith, a.within)

pub loop-i-smaller : goal.loop-i-smaller
loop-i-smaller g c = omega (arith, ends _ _ (inside g.R.Row.number c.args.rows.now c.loop-i-test.true) c.run_end-j.ensures, length-map c.args.rows.now g.R.Row.number)

pub loop-i-preserved : goal.loop-i-preserved
unfolding width_of
loop-i-preserved g c =
    let h : c.loop-i.i < length (map g.R.Row.number c.args.rows.now) = inside g.R.Row.number c.args.rows.now c.loop-i-test.true in
    missing_next _ _ _ _ _ c.requires.0 c.requires.1 c.loop-i.invariant h (rw c.row_at.ensures at c.position-first.ensures) c.run_end-j.ensures c.list_run-p.ensures refl

pub list_run-requires : goal.list_run-requires
unfolding width_of
list_run-requires g c = (missing_last _ _ _ _ _ c.requires.0 c.requires.1 c.loop-i.invariant (past g.R.Row.number c.args.rows.now c.loop-i-test.false), omega (arith, c.loop-i.invariant.inside))

pub returns : goal.returns
unfolding width_of
returns g c = missing_done _ _ _ _ _ c.requires.0 c.requires.1 c.loop-i.invariant (past g.R.Row.number c.args.rows.now c.loop-i-test.false) c.list_run.ensures
