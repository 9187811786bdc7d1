-- `deletion::write_from` meets its contract: a page more.
use Rattle.std.proofs.Common.{arith}
use Rattle.bodies.proofs.Laws.{names_few}
use Rattle.deletion.proofs.Walking.{filling_next, filling_end}
use Rattle.deletion.proofs.write_from.Goals as goal

pub overflow_add-from : goal.overflow_add-from
overflow_add-from c = omega (arith, c.loop-i.invariant.left, names_few _ _ _ c.args.accepted.now.accepted c.args.accepted.now.bytes)

pub loop-i-preserved : goal.loop-i-preserved
loop-i-preserved c = filling_next c.loop-i.invariant _ (omega (arith, c.min-m.ensures)) c.write_page.ensures

pub returns : goal.returns
returns c = filling_end c.loop-i.invariant c.loop-i-test.false
