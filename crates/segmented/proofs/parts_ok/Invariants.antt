-- `segmented::parts_ok`: whether each part before index i is accepted.
-- Assumes nothing.
use Rattle.std.proofs.Common.{◌≡◌}
use Rattle.model.specs.Tests.{all}
use Rattle.segmented.specs.Segmented.{part_accepts}
use Rattle.segmented.proofs.parts_ok.Given as goal

abbrev pub invariant-loop-i : goal.invariant-loop-i
invariant-loop-i l = l.ok ≡ all (part_accepts l.body) l.i
