-- The holes before run after run stand.
-- Assumes nothing.
use Rattle.std.proofs.Common.{◌-◌, length, map}
use Rattle.model.specs.Lists.{positions_of}
use Rattle.emit.proofs.Forms.{missing_form}
use Rattle.emit.proofs.Rowing.{Rowing}
use Rattle.emit_rows.proofs.missing_rows.Given as goal

abbrev pub invariant-loop-i : goal.invariant-loop-i
invariant-loop-i g l = Rowing (missing_form l.span) l.span (positions_of l.base (map g.R.Row.number l.rows)) l.fn.out l.at l.p l.i l.from l.out

abbrev pub decreases-loop-i : goal.decreases-loop-i
decreases-loop-i g l = length l.rows - l.i
