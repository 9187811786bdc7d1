-- `assemble::finish` meets its contract.
-- Assumes nothing.
use native.Mathlib.Omega.{arith}
use Rattle.assemble.specs.Sums.{finished}
use Rattle.assemble.proofs.Summing.{shallow}
use Rattle.assemble.proofs.finish.Goals as goal

pub overflow_add-form-3 : goal.overflow_add-form-3
overflow_add-form-3 c = omega (arith, shallow _ c.requires.few, c.depth.ensures)

pub returns : goal.returns
unfolding finished
returns c = rw c.depth.ensures
