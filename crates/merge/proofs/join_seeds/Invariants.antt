-- The state holds over the statistics of the seeds. The measure is what is left of 3(n - 1) offers.
-- Assumes nothing.
use Rattle.std.proofs.Common.{◌≡◌, ◌*◌, ◌-◌, length}
use Rattle.links.specs.Pairs.{Seeds}
use Rattle.links.specs.Tables.{stat_at}
use Rattle.merge.proofs.State.{State}
use Rattle.merge.proofs.join_seeds.Given as goal

abbrev pub invariant-loop-k : goal.invariant-loop-k
invariant-loop-k l = record {
  same_reference : l.queue.words.ghost_name ≡ l.initial.queue.words.ghost_name;
  size : length l.queue.words.now ≡ length l.initial.queue.words.now;
  seeds : Seeds (stat_at l.initial.t) l.n;
  state : State (stat_at l.initial.t) l.n l.t l.queue.words.now l.queue.len l.taken;
}

abbrev pub decreases-loop-k : goal.decreases-loop-k
decreases-loop-k l = 3 * (l.n - 1) - l.taken
