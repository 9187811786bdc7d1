-- The first i of n ordinals are written.
use Rattle.std.proofs.Common.{◌-◌}
use Rattle.bodies.specs.Bodies.{names}
use Rattle.deletion.proofs.Walking.{Filling}
use Rattle.deletion.proofs.write_from.Given as goal

abbrev pub invariant-loop-i : goal.invariant-loop-i
invariant-loop-i l = Filling (names l.accepted.tag l.accepted.span l.accepted.body.now) l.fn.out l.out l.from l.n l.i

abbrev pub decreases-loop-i : goal.decreases-loop-i
decreases-loop-i l = l.n - l.i
