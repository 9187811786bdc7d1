-- The answers so far stand in front, for any function that the calls compute.
-- Assumes nothing.
use Rattle.std.proofs.Common.{◌≡◌, ℕ, ◌<◌}
use Rattle.model.proofs.Ranking.{Answering}
use Rattle.model.proofs.each.answer_each.Given as goal

abbrev pub invariant-loop-i : goal.invariant-loop-i
invariant-loop-i g l = (f : ℕ → ℕ) → ((p r : ℕ) → p < 4294967296 → goal.F-post g l.answer p r → r ≡ f p) → Answering f l.positions l.fn.out l.out l.i
