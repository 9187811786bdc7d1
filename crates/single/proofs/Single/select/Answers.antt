-- `single::Single::select` meets its contract.
-- Assumes nothing.
use Rattle.std.proofs.Common.{ℕ, ◌+◌, ◌%◌, ap}
use Rattle.single.specs.Single.{view_select}
use Rattle.model.proofs.Taking.{tail_is}
use Rattle.single.proofs.Single.select.Goals as goal

pub returns : goal.returns
unfolding view_select
returns c = ap (λ (x : ℕ). (c.args.self.now.view.base + x) % 4294967296) (rw (tail_is _ _) at c.select.ensures)
