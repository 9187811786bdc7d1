-- `emit_rows::word_rows` meets its contract: up to the end of one run after the other.
-- Assumes nothing.
use Rattle.model.proofs.Positions.{length_positions}
use Rattle.emit.proofs.Passing.{positions_below}
use Rattle.emit.proofs.Looking.{spaced, onward_end}
use Rattle.emit.proofs.Wording.{wording_end}
use Rattle.emit_rows.proofs.Reading.{past}
use Rattle.emit_rows.proofs.word_rows.Goals as goal

pub ahead_of-ahead-requires : goal.ahead_of-ahead-requires
ahead_of-ahead-requires g c = let v = c.loop-word.invariant in (spaced c.requires.0, v.1, v.2, c.loop-word-test.true)

pub returns-then-word-ahead : goal.returns-then-word-ahead
returns-then-word-ahead g c =
    let t = c.ahead_of-ahead.ensures in
    let v = c.loop-word.invariant in
    let p = c.requires in
    (onward_end p.1 (positions_below _ _ p.0) v.0 c.more_rows-word.ensures c.if-word-ahead.true (rw length_positions t.0.inside), t.0, c.more_rows-word.ensures.within)

pub returns : goal.returns
returns g c =
    let v = c.loop-word.invariant in
    (wording_end c.requires.1 v.0 (rw length_positions (past g.R.Row.number c.args.rows.now c.loop-word-test.false)), v.1, v.2)
