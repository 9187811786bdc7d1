-- `bitmap::Bitmap::fill` meets its contract.
-- Assumes nothing.
use Rattle.bitmap.specs.Reading.{rest_of}
use Rattle.bitmap.proofs.Walking.{Filling}
use Rattle.bitmap.proofs.Bitmap.fill.Given as goal

abbrev pub invariant-loop-n : goal.invariant-loop-n
invariant-loop-n l = Filling l.self.body.now l.self.span (rest_of l.self.body.now l.self.span l.fn.c.index l.fn.c.word) l.base l.fn.out l.out l.n l.at.index l.at.word
