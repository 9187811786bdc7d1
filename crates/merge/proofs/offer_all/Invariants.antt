-- The first i pairs are offered.
-- Assumes nothing.
use Rattle.std.proofs.Common.{◌≡◌, length}
use Rattle.links.specs.Tables.{stat_at}
use Rattle.merge.specs.Steps.{Offering}
use Rattle.merge.proofs.offer_all.Given as goal

abbrev pub invariant-loop-i : goal.invariant-loop-i
invariant-loop-i l = record {
  same_reference : l.queue.words.ghost_name ≡ l.fn.queue.words.ghost_name;
  size : length l.queue.words.now ≡ length l.fn.queue.words.now;
  offering : Offering (stat_at l.t) l.n l.i l.queue.words.now l.queue.len;
}
