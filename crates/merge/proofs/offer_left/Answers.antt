-- Assumes nothing.
use Rattle.std.proofs.Common.{arith}
use Rattle.merge.proofs.Adds.{added_left, added_none}
use Rattle.merge.proofs.Steps.{left_reads}
use Rattle.merge.proofs.offer_left.Goals as goal

pub offer-requires : goal.offer-requires
offer-requires c =
    let r = left_reads 65535 _ _ _ _ c.requires.cuts.0 (omega arith) (c.requires.left (omega arith)) c.cell-left.ensures.0 in
    record { cuts = (r.0, c.requires.cuts.2); room = c.requires.room; neighbours = r.1 }

pub returns-then-l-gt0-clause-added : goal.returns-then-l-gt0-clause-added
returns-then-l-gt0-clause-added c = added_left _ _ _ _ (omega arith) c.cell-left.ensures.0 c.offer.ensures.added

pub returns-else-l-gt0-clause-added : goal.returns-else-l-gt0-clause-added
returns-else-l-gt0-clause-added c = added_none _ _ (omega arith) c.args.queue.now.heap
