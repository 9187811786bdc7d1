-- `runs::Runs::walk_from` meets its contract.
-- Assumes nothing.
use Rattle.std.proofs.Common.{arith}
use Rattle.model.proofs.Writing.{filled_full}
use Rattle.runs.proofs.Filling.{walking_start, walking_wrote, walking_next, walking_end}
use Rattle.runs.proofs.Runs.walk_from.Goals as goal

pub loop-i-init : goal.loop-i-init
loop-i-init c = walking_start _ _ _ _ _ _ _

pub returns-then-done-end : goal.returns-then-done-end
returns-then-done-end c =
    filled_full (walking_wrote c.loop-i.invariant c.loop-i-test.true c.read.ensures c.write_run-done.ensures.0 c.write_run-done.ensures.1) (omega arith)

pub loop-i-preserved : goal.loop-i-preserved
loop-i-preserved c =
    let w = c.write_run-done.ensures in
    record {
      filled = walking_wrote c.loop-i.invariant c.loop-i-test.true c.read.ensures w.0 w.1;
      rest = walking_next c.loop-i.invariant c.loop-i-test.true c.read.ensures w.0 c.if-done-end.false;
    }

pub returns : goal.returns
returns c = walking_end c.loop-i.invariant c.loop-i-test.false
