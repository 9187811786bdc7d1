-- `runs::write_run` meets its contract.
-- Assumes nothing.
use Rattle.model.specs.Lists.{range}
use Rattle.model.proofs.Writing.{Filled}
use Rattle.runs.proofs.write_run.Given as goal

abbrev pub invariant-loop-j : goal.invariant-loop-j
invariant-loop-j l = Filled l.first l.at (range 0 l.n) l.fn.out l.out l.j
