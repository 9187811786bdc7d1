-- `emit_rows::runs_rows` meets its contract: an entry for each run.
-- Assumes nothing.
use mathlib.Core.List.{map}
use Prim.Native.Nat.{◌<◌}
use native.Mathlib.Omega.{arith}
use lib.ListN.{length, length-map}
use Rattle.emit.proofs.Passing.{pass_start}
use Rattle.emit.proofs.Loops.{row_at, ends, runs_fits, runs_next, runs_done}
use Rattle.emit_rows.proofs.Reading.{inside, past}
use Rattle.emit_rows.proofs.runs_rows.Goals as goal

pub loop-i-init : goal.loop-i-init
loop-i-init g c = pass_start _ _ _ _ _ _ c.requires.0

pub position-requires : goal.position-requires
position-requires g c = rw c.row_at.ensures (row_at c.requires.0 _ (inside g.R.Row.number c.args.rows.now c.loop-i-test.true))

pub overflow_sub-j : goal.overflow_sub-j
overflow_sub-j g c = omega (arith, ends _ _ (inside g.R.Row.number c.args.rows.now c.loop-i-test.true) c.run_end-j.ensures)

pub overflow_cast-j : goal.overflow_cast-j
overflow_cast-j g c = omega (arith, ends _ _ (inside g.R.Row.number c.args.rows.now c.loop-i-test.true) c.run_end-j.ensures, length-map c.args.rows.now g.R.Row.number)

pub run_entry-p-requires : goal.run_entry-p-requires
run_entry-p-requires g c =
    let h : c.loop-i.i < length (map g.R.Row.number c.args.rows.now) = inside g.R.Row.number c.args.rows.now c.loop-i-test.true in
    runs_fits _ _ _ _ _ c.requires.0 c.loop-i.invariant h (rw c.row_at.ensures at c.position.ensures) c.run_end-j.ensures c.requires.2

pub loop-i-smaller : goal.loop-i-smaller
loop-i-smaller g c = omega (arith, ends _ _ (inside g.R.Row.number c.args.rows.now c.loop-i-test.true) c.run_end-j.ensures, length-map c.args.rows.now g.R.Row.number)

pub loop-i-preserved : goal.loop-i-preserved
loop-i-preserved g c =
    let h : c.loop-i.i < length (map g.R.Row.number c.args.rows.now) = inside g.R.Row.number c.args.rows.now c.loop-i-test.true in
    runs_next _ _ _ _ _ c.requires.0 c.loop-i.invariant h (rw c.row_at.ensures at c.position.ensures) c.run_end-j.ensures c.run_entry-p.ensures

pub returns : goal.returns
returns g c = runs_done _ _ _ _ _ c.requires.0 c.loop-i.invariant (past g.R.Row.number c.args.rows.now c.loop-i-test.false)
