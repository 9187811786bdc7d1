-- Assumes nothing.
use Rattle.std.proofs.Common.{arith}
use Rattle.links.specs.Tables.{next}
use Rattle.merge.proofs.Adds.{added_right, added_none}
use Rattle.merge.proofs.Steps.{right_reads}
use Rattle.merge.proofs.offer_right.Goals as goal

pub offer-requires : goal.offer-requires
offer-requires c =
    let r = right_reads 65535 _ _ _ _ c.requires.cuts.0 (c.requires.right (omega arith)) c.next-right.ensures.0 in
    record { cuts = (r.0, c.requires.cuts.1); room = c.requires.room; neighbours = r.1 }

pub returns-then-right-gt0-clause-added : goal.returns-then-right-gt0-clause-added
returns-then-right-gt0-clause-added c = added_right _ _ _ _ (omega arith) c.next-right.ensures.0 c.offer.ensures.added

pub returns-else-right-gt0-clause-added : goal.returns-else-right-gt0-clause-added
returns-else-right-gt0-clause-added c = added_none (next c.args.t.now c.args.r) _ (omega arith) c.args.queue.now.heap
