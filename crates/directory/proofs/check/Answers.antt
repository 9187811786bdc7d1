-- `directory::check` meets its contract: each answer is the whole test's.
-- Assumes nothing.
use Rattle.std.proofs.Common.{arith, sym, ◌∙◌}
use borrow.Author.Tests.{leb-true, leb-false}
use Rattle.directory.proofs.Parts.{check_short, check_none, check_room, check_segments}
use Rattle.directory.proofs.check.Goals as goal
use Rattle.directory.proofs.check.Goals.{then-n-ge1, else-n-ge1}

pub returns-then-body-lt4 : goal.returns-then-body-lt4
returns-then-body-lt4 c = check_short _ _ c.if-body-lt4.true

pub returns-then-n-body : goal.returns-then-n-body
returns-then-n-body c =
    elim c.if-n-ge1.branch [
      | then-n-ge1 w ↦ check_segments _ _ c.segments-n.ensures.0 w.if-n-ge1.true (leb-true _ _ (sym w.value-is ∙ c.if-n-body.true)) c.counted.ensures c.read16.ensures (rw (c.new.ensures.body, c.new.ensures.n) at c.stand.ensures)
      | else-n-ge1 w ↦ absurd (omega (arith, leb-true 1 c.segments-n.result (sym w.value-is ∙ c.if-n-body.true)))
    ]

pub returns-else-n-body : goal.returns-else-n-body
returns-else-n-body c =
    rw c.if-n-body.false
    (elim c.if-n-ge1.branch [
      | then-n-ge1 w ↦ check_room _ _ _ c.segments-n.ensures.0 (leb-false _ _ (sym w.value-is ∙ c.if-n-body.false))
      | else-n-ge1 w ↦ check_none _ _ _ c.segments-n.ensures.0 w.if-n-ge1.false
    ])
