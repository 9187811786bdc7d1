-- The records after the join give the two offers what they ask.
-- Assumes nothing.
use Rattle.std.proofs.Common.{arith}
use Rattle.merge.specs.Steps.{left_is}
use Rattle.merge.proofs.Offers.{one_most}
use Rattle.merge.proofs.Steps.{linking, left_asks, right_asks}
use Rattle.merge.proofs.join_pair.Goals as goal

pub join-s-requires : goal.join-s-requires
join-s-requires c = rw (c.segment.ensures, c.segment-2.ensures) c.requires.ready.0.pair

pub offer_left-requires-clause-left : goal.offer_left-requires-clause-left
offer_left-requires-clause-left c =
    left_asks 65535 _ _ _ _ _ c.requires.ready.0 c.requires.ready.1 (linking _ _ _ _ _ _ _ _ c.segment.ensures c.segment-2.ensures c.join-s.ensures c.link.ensures)

pub offer_right-requires-clause-room : goal.offer_right-requires-clause-room
offer_right-requires-clause-room c = omega (arith, c.offer_left.ensures.added.count, one_most (left_is c.link.new.w c.args.p.left))

pub offer_right-requires-clause-right : goal.offer_right-requires-clause-right
offer_right-requires-clause-right c =
    right_asks 65535 _ _ _ _ _ c.requires.ready.0 c.requires.ready.1 (linking _ _ _ _ _ _ _ _ c.segment.ensures c.segment-2.ensures c.join-s.ensures c.link.ensures)

pub returns-clause-joining : goal.returns-clause-joining
returns-clause-joining c = record {
  halfway = c.offer_left.new.queue.words.now;
  offered = c.offer_left.new.queue.len;
  tables = linking _ _ _ _ _ _ _ _ c.segment.ensures c.segment-2.ensures c.join-s.ensures c.link.ensures;
  left = c.offer_left.ensures.added;
  right = c.offer_right.ensures.added;
}
