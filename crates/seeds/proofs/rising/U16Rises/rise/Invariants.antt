-- The ordinals up to index i rise as far as the flag says.
-- Assumes nothing.
use Rattle.std.proofs.Common.{◌≡◌, ◌-◌, ◌≤◌, length}
use Rattle.model.specs.Tests.{all}
use Rattle.gather_core.specs.Gather.{up_at}
use Rattle.seeds.proofs.rising.U16Rises.rise.Given as goal

abbrev pub invariant-loop-i : goal.invariant-loop-i
invariant-loop-i l = (1 ≤ l.i) × (l.i - 1 ≤ length l.ordinals - 1) × (l.ok ≡ all (up_at l.ordinals) (l.i - 1))
