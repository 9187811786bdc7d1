-- `emit_rows::run_rows` meets its contract: no rows, or a mask.
-- Assumes nothing.
use mathlib.Core.Path.{sym, ◌∙◌}
use native.Mathlib.Omega.{arith}
use Rattle.emit.proofs.Passing.{row_out}
use Rattle.emit.proofs.Loops.{row_at}
use Rattle.emit.proofs.Looking.{part_min, spaced, onward_start, onward_upto, onward_run}
use Rattle.emit_rows.proofs.run_rows.Goals as goal

pub position-q-requires : goal.position-q-requires
position-q-requires g c =
    let s = c.requires.1 in
    rw c.row_at.ensures (row_at c.requires.0 _ (omega arith))

pub returns-then-not-in_word : goal.returns-then-not-in_word
returns-then-not-in_word g c =
    let s = c.requires.1 in
    onward_upto (onward_start c.requires.3) (λ h. row_out _ _ (omega arith) _ (rw c.row_at.ensures at c.position-q.ensures) (sym c.in_word.ensures ∙ c.if-not-in_word.true))

pub with_run-requires : goal.with_run-requires
with_run-requires g c =
    let s = c.requires.1 in
    let p = part_min _ _ c.position-q.result c.if-ahead-j.false c.min.ensures in
    (p.some, p.fits, omega (arith, (spaced c.requires.0).few))

pub returns : goal.returns
returns g c =
    onward_run c.requires.0 c.requires.1 _ c.requires.2 (omega arith) (rw c.row_at.ensures at c.position-q.ensures) (part_min _ _ _ c.if-ahead-j.false c.min.ensures) (sym c.in_word.ensures ∙ c.if-not-in_word.false) c.with_run.ensures
