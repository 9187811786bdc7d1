-- `segmented::Segmented::walk_from`: what is written so far, and where the walk goes on.
-- Assumes nothing.
use Rattle.std.proofs.Common.{◌+◌}
use Rattle.directory.specs.Directory.{rows_before}
use Rattle.segmented.proofs.Walks.{Going}
use Rattle.segmented.proofs.Segmented.walk_from.Given as goal

abbrev pub invariant-loop-i : goal.invariant-loop-i
invariant-loop-i l = Going l.self.body.now (rows_before l.self.body.now l.first + l.skip) l.fn.out l.out l.i l.from l.at
