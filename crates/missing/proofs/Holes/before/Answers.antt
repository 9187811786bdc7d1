-- `missing::Holes::before` meets its contract: it is the search over gaps.
-- Assumes nothing.
use Rattle.std.proofs.Common.{arith}
use Rattle.fields.specs.Le.{width_of}
use Rattle.search.proofs.Laws.{found_within}
use Rattle.missing.specs.Missing.{holes_before}
use Rattle.missing.proofs.Holes.before.Goals as goal

pub upper-requires : goal.upper-requires
unfolding width_of
upper-requires c = λ i l. omega arith

pub overflow_cast-result : goal.overflow_cast-result
overflow_cast-result c = omega (arith, found_within _ _ c.upper.ensures)

pub returns : goal.returns
unfolding holes_before width_of
returns c = rw (c.from.ensures, c.from-2.ensures) at c.upper.ensures
