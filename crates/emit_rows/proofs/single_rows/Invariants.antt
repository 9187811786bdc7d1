-- Digit after digit is set.
-- Assumes nothing.
use Rattle.std.proofs.Common.{◌≤◌, max, map}
use Rattle.model.specs.Lists.{positions_of}
use Rattle.emit.specs.Words.{Onward}
use Rattle.emit_rows.proofs.single_rows.Given as goal

abbrev pub invariant-loop-j : goal.invariant-loop-j
invariant-loop-j g l = (Onward (positions_of l.base (map g.R.Row.number l.rows)) l.k 0 l.ahead.stop l.word (record { bits = l.bits; next = l.j })) × (l.j ≤ max l.word.next l.ahead.start)
