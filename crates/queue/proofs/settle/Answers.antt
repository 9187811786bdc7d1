-- Assumes nothing.
use Rattle.std.proofs.Common.{refl, arith}
use Rattle.queue.proofs.Turns.{sinking_start, sinking_turn, sinking_end, larger_under}
use Rattle.queue.proofs.settle.Goals as goal
use Rattle.queue.proofs.settle.Goals.{else-loop-i-test, then-loop-i-test+then-below-k}

pub loop-i-init : goal.loop-i-init
loop-i-init c = sinking_start _ c.requires.m_nonzero.0 c.requires.heap

pub loop-i-preserved : goal.loop-i-preserved
loop-i-preserved c =
    sinking_turn _ c.requires.m_nonzero.1 c.store.ensures c.loop-i.invariant c.larger-child.ensures c.load-below.ensures c.if-below-k.false

pub returns : goal.returns
returns c =
    sinking_end _ c.requires.m_nonzero.1 c.store-2.ensures c.loop-i.invariant refl
    (elim c.loop-i-test.branch [
      | else-loop-i-test w ↦ λ j p q e. absurd (omega (arith, w.loop-i-test.false))
      | then-loop-i-test+then-below-k w ↦ larger_under w.larger-child.ensures _ (omega (arith, w.load-below.ensures, w.if-below-k.true))
    ])
