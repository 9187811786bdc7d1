-- Assumes nothing.
use Rattle.std.proofs.Common.{refl, arith}
use Rattle.queue.proofs.Turns.{rising_start, rising_turn, rising_end}
use Rattle.queue.proofs.push.Goals as goal
use Rattle.queue.proofs.push.Goals.{else-loop-i-test, then-loop-i-test+then-k-above}

pub loop-i-init : goal.loop-i-init
loop-i-init c = rising_start _ c.requires.heap

pub loop-i-preserved : goal.loop-i-preserved
loop-i-preserved c = rising_turn _ c.requires.n_in_bounds c.store.ensures c.loop-i.invariant c.loop-i-test.true c.load-above.ensures c.if-k-above.false

pub returns : goal.returns
returns c =
    rising_end _ c.requires.n_in_bounds c.store-2.ensures c.loop-i.invariant refl
    (λ z. elim c.loop-i-test.branch [ else-loop-i-test w ↦ omega arith | then-loop-i-test+then-k-above w ↦ omega (arith, w.load-above.ensures, w.if-k-above.true) ])
