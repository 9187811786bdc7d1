-- Assumes nothing.
use Rattle.std.proofs.Common.{sym, ◌∙◌, arith}
use Rattle.merge.proofs.Adds.{offered_yes, offered_no}
use Rattle.merge.proofs.offer.Goals as goal

pub admitted-requires : goal.admitted-requires
admitted-requires c = rw (c.segment-a.ensures, c.segment-b.ensures) c.requires.neighbours

pub saving-requires : goal.saving-requires
saving-requires c = record {
  neighbours = rw (c.segment-a.ensures, c.segment-b.ensures) c.requires.neighbours;
  b_value = sym c.admitted.ensures ∙ c.if-admitted.true;
}

pub returns-then-admitted-clause-added : goal.returns-then-admitted-clause-added
returns-then-admitted-clause-added c =
    rw c.push.ensures.len
    (offered_yes _ _ _ _ _ _ _ _ _ _ c.segment-a.ensures c.segment-b.ensures (sym c.admitted.ensures ∙ c.if-admitted.true) (omega (arith, c.encode.ensures, c.saving.ensures.0)) c.push.ensures.pushed)

pub returns-else-admitted-clause-added : goal.returns-else-admitted-clause-added
returns-else-admitted-clause-added c =
    offered_no _ _ _ _ _ _ _ _ c.segment-a.ensures c.segment-b.ensures (sym c.admitted.ensures ∙ c.if-admitted.false) c.args.queue.now.heap
