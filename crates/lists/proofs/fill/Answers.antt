-- `lists::fill` meets its contract: position pos + i is written at i.
-- Assumes nothing.
use Rattle.std.proofs.Common.{◌≡◌, ℕ, ◌+◌, ◌%◌, refl, arith}
use Rattle.model.proofs.Ranges.{length-range, get_or-range}
use Rattle.model.proofs.Writing.{filled_start, filled_next, filled_whole}
use Rattle.lists.proofs.fill.Goals as goal

-- to add first and then i, or both at once
summed : (b p i : ℕ) → ((b + p) % 4294967296 + i) % 4294967296 ≡ (b + (p + i)) % 4294967296
summed b p i = omega arith

pub loop-i-init : goal.loop-i-init
loop-i-init c = filled_start _ _ _ _ (omega arith)

pub loop-i-preserved : goal.loop-i-preserved
loop-i-preserved c = filled_next c.loop-i.invariant _ (rw length-range c.loop-i-test.true) (get_or-range _ _ _ c.loop-i-test.true) refl (omega arith) (summed _ _ _)

pub returns : goal.returns
returns c = filled_whole c.loop-i.invariant (rw length-range c.loop-i-test.false)
