-- `search::extra` meets its contract: what it adds admits the same fields.
-- Assumes nothing.
use Rattle.std.proofs.Common.{add-zero, arith}
use Rattle.search.specs.Search.{allowed}
use Rattle.search.proofs.Laws.{past_all}
use Rattle.search.proofs.extra.Goals as goal

pub returns-then-gaps : goal.returns-then-gaps
unfolding allowed
returns-then-gaps c = (omega arith, λ v key h. rw (c.if-gaps.true, c.min.ensures) (past_all c.args.i key h))

pub returns-else-gaps : goal.returns-else-gaps
unfolding allowed
returns-else-gaps c = (omega arith, λ v key h. rw (c.if-gaps.false, add-zero))
