-- `seeds::rising::U16Rises::rise` meets its contract.
-- Assumes nothing.
use Rattle.std.proofs.Common.{◌≡◌, ◌+◌, ◌-◌, length, refl, arith, map-id}
use Rattle.model.specs.Tests.{all}
use Rattle.model.proofs.Counted.{flag_step}
use Rattle.gather_core.specs.Gather.{up_at, rises}
use Rattle.seeds.proofs.rising.U16Rises.rise.Goals as goal

pub loop-i-init : goal.loop-i-init
unfolding all
loop-i-init c = (omega arith, omega arith, refl)

pub loop-i-preserved : goal.loop-i-preserved
unfolding up_at
loop-i-preserved c =
    let e : c.loop-i.i - 1 + 1 ≡ c.loop-i.i = omega arith in
    let f : c.loop-i.i + 1 - 1 ≡ c.loop-i.i - 1 + 1 = omega arith in
    (omega arith, omega arith, rw f (flag_step (up_at c.args.ordinals.now) (c.loop-i.i - 1) c.loop-i.invariant.2 (rw e)))

pub returns : goal.returns
unfolding rises
returns c =
    let e : c.loop-i.i - 1 ≡ length c.args.ordinals.now - 1 = omega (arith, c.loop-i.invariant.1) in
    rw (map-id, ← e) c.loop-i.invariant.2
