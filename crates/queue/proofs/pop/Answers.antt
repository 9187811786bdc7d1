-- The key at 0 is the largest, and the last key settles in its place.
-- Assumes nothing.
use Rattle.std.proofs.Common.{arith}
use Rattle.queue.proofs.Order.{ordered_less}
use Rattle.queue.proofs.Turns.{popped, popped_one}
use Rattle.queue.proofs.pop.Goals as goal

pub returns-then-m-eq0 : goal.returns-then-m-eq0
returns-then-m-eq0 c = popped_one c.requires.n_nonzero.0 c.if-m-eq0.true c.requires.heap c.load-top.ensures

pub settle-requires : goal.settle-requires
settle-requires c = record { m_nonzero = (omega arith, omega arith); heap = ordered_less _ (omega arith) c.requires.heap }

pub returns : goal.returns
returns c = popped c.requires.n_nonzero.0 c.requires.heap c.load-top.ensures c.load-last.ensures c.settle.ensures
