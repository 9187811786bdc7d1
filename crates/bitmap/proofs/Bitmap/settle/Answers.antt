-- `bitmap::Bitmap::settle` meets its contract.
-- Assumes nothing.
use Rattle.std.proofs.Common.{refl, arith}
use Rattle.bitmap.proofs.Walking.{used_up, word_left, none_left}
use Rattle.bitmap.proofs.Bitmap.settle.Goals as goal

pub loop-index-init : goal.loop-index-init
loop-index-init c = used_up _ _ _ _ _ _ (omega arith) refl

pub returns-then-word-ne0 : goal.returns-then-word-ne0
returns-then-word-ne0 c =
    record {
      inside = omega arith;
      some = c.if-word-ne0.true;
      same = word_left _ _ _ _ _ c.loop-index.invariant c.args.self.now.bytes _ (omega arith) c.word_at-word.ensures;
    }

pub loop-index-preserved : goal.loop-index-preserved
loop-index-preserved c =
    used_up _ _ _ _ c.loop-index.index c.word_at-word.result c.if-word-ne0.false
    (word_left _ _ _ _ _ c.loop-index.invariant c.args.self.now.bytes _ (omega arith) c.word_at-word.ensures)

pub returns : goal.returns
returns c = none_left _ _ _ _ _ c.loop-index.invariant (omega arith)
