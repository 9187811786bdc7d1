-- One run after the other is in.
-- Assumes nothing.
use Rattle.std.proofs.Common.{◌-◌, ◌≤◌, length, map}
use Rattle.model.specs.Lists.{positions_of}
use Rattle.emit.specs.Words.{Wording, Sight}
use Rattle.emit_rows.proofs.word_rows.Given as goal

abbrev pub invariant-loop-word : goal.invariant-loop-word
invariant-loop-word g l = (Wording (positions_of l.base (map g.R.Row.number l.rows)) l.k l.i l.word) × (Sight (map g.R.Row.number l.rows) l.ahead) × (l.word.next ≤ l.ahead.stop)

abbrev pub decreases-loop-word : goal.decreases-loop-word
decreases-loop-word g l = length l.rows - l.word.next
