-- `bitmap::Bitmap::within_span` meets its contract.
-- Assumes nothing.
use Rattle.std.proofs.Common.{◌∙◌, arith, eq-eqb}
use Rattle.bitmap.proofs.Groups.{past_full, past_test}
use Rattle.bitmap.proofs.Bitmap.within_span.Goals as goal

pub returns-then-bit-eq0 : goal.returns-then-bit-eq0
returns-then-bit-eq0 c = eq-eqb _ _ c.if-bit-eq0.true ∙ past_full _ c.args.self.now.bytes _ c.if-bit-eq0.true

pub returns-else-bit-eq0 : goal.returns-else-bit-eq0
returns-else-bit-eq0 c = rw (c.word_at.ensures, c.words_of.ensures) (past_test _ c.args.self.now.bytes _ (omega arith))
