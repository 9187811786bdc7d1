-- `lists::Items::walk` meets its contract: item from + i is written at i.
-- Assumes nothing.
use Rattle.std.proofs.Common.{ℕ, ◌+◌}
use Rattle.fields.specs.Le.{width_of}
use Rattle.model.specs.Tests.{tabulate}
use Rattle.model.proofs.Writing.{Filled}
use Rattle.lists.specs.Lists.{item}
use Rattle.lists.proofs.Items.walk.Given as goal

abbrev pub invariant-loop-i : goal.invariant-loop-i
invariant-loop-i l = Filled l.base 0 (tabulate (λ (j : ℕ). item (width_of l.self.wide) l.self.body.now (l.from + j)) l.n) l.fn.out l.out l.i
