-- `assemble::also` meets its contract: so many segments of at most 8,704 bytes each fit.
-- Assumes nothing.
use native.Mathlib.Omega.{arith}
use Rattle.assemble.specs.Sums.{also}
use Rattle.assemble.proofs.Summing.{larger_max, form_short}
use Rattle.assemble.proofs.also.Goals as goal

pub overflow_add-result-2 : goal.overflow_add-result-2
overflow_add-result-2 c = omega (arith, form_short _ c.requires.short c.local_form-f.ensures)

pub returns : goal.returns
unfolding also
returns c = rw (c.max.ensures, c.max-2.ensures, c.join.ensures, c.local_form-f.ensures) (simp larger_max)
