-- `replay::read_full` is safe and ends: each read but the last puts a byte or more into what is left of the list.
use Rattle.std.proofs.Common.{◌-◌, ◌≤◌, ◌≡◌, length}
use Rattle.replay.proofs.read_full.Given as goal

abbrev pub invariant-loop-got : goal.invariant-loop-got
invariant-loop-got l = (l.got ≤ l.end) × (length l.list ≡ l.end) × (l.end ≡ length l.fn.list)

abbrev pub decreases-loop-got : goal.decreases-loop-got
decreases-loop-got l = l.end - l.got
