-- `runs::Runs::walk_from` meets its contract.
-- Assumes nothing.
use Rattle.std.proofs.Common.{◌-◌}
use Rattle.fields.specs.Le.{width_of}
use Rattle.runs.specs.Asked.{runs_from}
use Rattle.runs.proofs.Filling.{Walking}
use Rattle.runs.proofs.Runs.walk_from.Given as goal

abbrev pub invariant-loop-i : goal.invariant-loop-i
invariant-loop-i l = Walking (width_of l.self.wide) l.self.body.now l.self.runs l.base (runs_from (width_of l.self.wide) l.self.body.now (l.self.runs - l.first) l.first l.skip) l.fn.out l.out l.left l.done l.i
