-- `bitmap::Bitmap::ones_in` meets its contract.
-- Assumes nothing.
use Rattle.std.proofs.Common.{◌≤◌}
use Rattle.bitmap.specs.Reading.{Between}
use Rattle.bitmap.proofs.Bitmap.ones_in.Given as goal

abbrev pub invariant-loop-at : goal.invariant-loop-at
invariant-loop-at l = (l.i ≤ l.at) × (l.at ≤ l.j) × Between l.self.body.now l.self.span l.i l.at l.n
