-- `emit::list_run` meets its contract: item after item.
-- Assumes nothing.
use native.Mathlib.Omega.{arith}
use Rattle.emit.proofs.Emitting.{emitting_length}
use Rattle.emit.proofs.Pieces.{listing_room, listing_next, listing_end}
use Rattle.emit.proofs.list_run.Goals as goal

pub put_field-requires : goal.put_field-requires
put_field-requires c = listing_room _ _ _ _ _ c.loop-i.invariant c.loop-i-test.true c.requires.0

pub overflow_add-p : goal.overflow_add-p
overflow_add-p c = omega (arith, listing_room _ _ _ _ _ c.loop-i.invariant c.loop-i-test.true c.requires.0, emitting_length c.loop-i.invariant.so)

pub loop-i-preserved : goal.loop-i-preserved
loop-i-preserved c = listing_next _ _ _ _ _ c.loop-i.invariant c.loop-i-test.true c.put_field.ensures (rw c.width-w.ensures.0)

pub returns : goal.returns
returns c = listing_end _ _ _ _ _ c.loop-i.invariant c.loop-i-test.false
