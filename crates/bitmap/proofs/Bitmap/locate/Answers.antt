-- `bitmap::Bitmap::locate` meets its contract.
-- Assumes nothing.
use Rattle.std.proofs.Common.{◌∙◌, arith}
use Rattle.bitmap.proofs.Locating.{locating_start, locating_next, spotted_empty, spotted_found, spotted_none}
use Rattle.bitmap.proofs.Bitmap.locate.Goals as goal

pub returns-then-self-eq0 : goal.returns-then-self-eq0
returns-then-self-eq0 c = spotted_empty _ _ _ c.args.self.now.bytes c.if-self-eq0.true

pub loop-index-init : goal.loop-index-init
loop-index-init c =
    locating_start _ _ _ (omega arith) c.group_for-g.ensures.0 (c.min-end.ensures ∙ rw c.words_of.ensures) (c.from-2.ensures ∙ c.read16.ensures)
    (c.saturating_sub-left.ensures ∙ rw c.from.ensures)

pub returns-then-left-n : goal.returns-then-left-n
returns-then-left-n c =
    spotted_found _ _ _ c.args.self.now.bytes c.loop-index.invariant _ (omega arith) (c.ones-n.ensures.0 ∙ rw c.word_at.ensures) c.if-left-n.true

pub loop-index-preserved : goal.loop-index-preserved
loop-index-preserved c =
    locating_next _ _ _ c.args.self.now.bytes c.loop-index.invariant _ (omega arith) (c.ones-n.ensures.0 ∙ rw c.word_at.ensures) c.if-left-n.false

pub returns : goal.returns
returns c = spotted_none _ _ _ c.args.self.now.bytes c.loop-index.invariant c.loop-index-test.false
