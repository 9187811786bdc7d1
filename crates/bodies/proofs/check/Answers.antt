-- `bodies::check` meets its contract.
-- Assumes nothing.
use Rattle.std.proofs.Common.{sym, ◌∙◌}
use Rattle.bodies.proofs.Laws.{accepts_nine, accepts_other}
use Rattle.bodies.proofs.check.Goals as goal

pub returns-then-tag-eq9 : goal.returns-then-tag-eq9
returns-then-tag-eq9 c = c.check.ensures ∙ sym (accepts_nine _ _ _ c.if-tag-eq9.true)

pub returns-else-tag-eq9 : goal.returns-else-tag-eq9
returns-else-tag-eq9 c = c.check-else-tag-eq9.ensures ∙ sym (accepts_other _ _ _ c.if-tag-eq9.false)
