-- Entry after entry stands.
-- Assumes nothing.
use Rattle.std.proofs.Common.{◌-◌, length, map}
use Rattle.fields.specs.Le.{width_of}
use Rattle.emit.proofs.Forms.{runs_form}
use Rattle.emit.proofs.Passing.{Passing}
use Rattle.emit_rows.proofs.runs_rows.Given as goal

abbrev pub invariant-loop-i : goal.invariant-loop-i
invariant-loop-i g l = Passing (runs_form (width_of l.wide)) l.base 4294967295 (map g.R.Row.number l.rows) l.fn.out l.at l.p l.i l.out

abbrev pub decreases-loop-i : goal.decreases-loop-i
decreases-loop-i g l = length l.rows - l.i
