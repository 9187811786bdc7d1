-- `emit_rows::single_rows` meets its contract: digit after digit.
-- Assumes nothing.
use mathlib.Core.Path.{◌≡◌, sym, ◌∙◌}
use native.Mathlib.Omega.{arith}
use Rattle.emit.proofs.Passing.{positions_below, row_stands, row_out}
use Rattle.emit.proofs.Loops.{row_at}
use Rattle.emit.proofs.Looking.{onward_next, onward_upto}
use Rattle.emit_rows.proofs.single_rows.Goals as goal

pub position-q-requires : goal.position-q-requires
position-q-requires g c =
    let s = c.requires.1 in
    rw c.row_at.ensures (row_at c.requires.0 _ (omega arith))

pub returns-then-not-in_word : goal.returns-then-not-in_word
returns-then-not-in_word g c =
    let s = c.requires.1 in
    onward_upto c.loop-j.invariant.0 (λ h. row_out _ _ (omega arith) _ (rw c.row_at.ensures at c.position-q.ensures) (sym c.in_word.ensures ∙ c.if-not-in_word.true))

pub loop-j-preserved : goal.loop-j-preserved
loop-j-preserved g c =
    let s = c.requires.1 in
    (onward_next c.loop-j.invariant.0 (positions_below _ _ c.requires.0) (row_stands _ _ (omega arith) (rw c.row_at.ensures at c.position-q.ensures)) (sym c.in_word.ensures ∙ c.if-not-in_word.false) c.with_digit-bits.ensures (omega arith), omega arith)

pub returns : goal.returns
returns g c =
    let e : c.loop-j.j ≡ c.max.result = omega arith in
    rw (← e) (onward_upto c.loop-j.invariant.0 (λ h. absurd (omega arith)))
