-- `runs::Runs::stand` meets its contract.
-- Assumes nothing.
use Rattle.fields.specs.Le.{width_of}
use Rattle.runs.proofs.Table.{Standing}
use Rattle.runs.proofs.Runs.stand.Given as goal

abbrev pub invariant-loop-i : goal.invariant-loop-i
invariant-loop-i l = Standing (width_of l.self.wide) l.self.body.now l.end l.self.runs l.i l.ok l.low l.rows
