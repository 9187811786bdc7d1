-- Word after word stands.
-- Assumes nothing.
use Rattle.std.proofs.Common.{◌≤◌, map}
use Rattle.model.specs.Lists.{positions_of}
use Rattle.emit.specs.Words.{Sight}
use Rattle.emit.proofs.Wording.{Mapping}
use Rattle.emit_rows.proofs.bitmap_rows.Given as goal

abbrev pub invariant-loop-k : goal.invariant-loop-k
invariant-loop-k g l = (Mapping l.span (positions_of l.base (map g.R.Row.number l.rows)) l.fn.out l.at l.k l.i l.p l.out) × (Sight (map g.R.Row.number l.rows) l.ahead) × (l.i ≤ l.ahead.stop)
