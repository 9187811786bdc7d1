-- `emit::put_before` meets its contract.
-- Assumes nothing.
use mathlib.Core.Path.{sym, ◌∙◌}
use borrow.Author.Tests.{eq-eqb, ne_eqb}
use Rattle.model.proofs.Tests.{pick_true, pick_false}
use Rattle.emit.specs.Words.{counted_at}
use Rattle.emit.proofs.Pieces.{put_low}
use Rattle.emit.proofs.put_before.Goals as goal

pub returns-then-k-eq0 : goal.returns-then-k-eq0
unfolding counted_at
returns-then-k-eq0 c = c.put16.ensures ∙ put_low 2 _ _ _ ∙ sym (pick_true _ _ (eq-eqb _ 0 c.if-k-eq0.true))

pub returns-else-k-eq0 : goal.returns-else-k-eq0
unfolding counted_at
returns-else-k-eq0 c = sym (pick_false _ _ (ne_eqb _ 0 c.if-k-eq0.false))
