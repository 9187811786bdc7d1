-- `replay::run_all` is safe and ends: each case takes a byte or more, so that there are no more cases than bytes.
use Rattle.std.proofs.Common.{◌-◌, ◌≤◌, ◌≡◌, length}
use Rattle.replay.proofs.run_all.Given as goal

abbrev pub invariant-loop-at : goal.invariant-loop-at
invariant-loop-at l = (l.cases ≤ l.at) × (length l.counts ≡ length l.fn.counts)

abbrev pub decreases-loop-at : goal.decreases-loop-at
decreases-loop-at l = length l.list - l.at
