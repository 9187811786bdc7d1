-- `bitmap::Bitmap::settle` meets its contract.
-- Assumes nothing.
use Rattle.std.proofs.Common.{◌≡◌, ◌*◌}
use Rattle.bitmap.specs.Reading.{from, rest_of}
use Rattle.bitmap.proofs.Bitmap.settle.Given as goal

abbrev pub invariant-loop-index : goal.invariant-loop-index
invariant-loop-index l = from l.self.body.now l.self.span (64 * l.index) ≡ rest_of l.self.body.now l.self.span l.fn.c.index l.fn.c.word
