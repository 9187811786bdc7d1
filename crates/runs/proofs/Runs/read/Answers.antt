-- `runs::Runs::read` meets its contract.
-- Assumes nothing.
use Rattle.runs.proofs.Table.{entry_is}
use Rattle.runs.proofs.Runs.read.Goals as goal

pub returns : goal.returns
returns c = entry_is _ _ _ c.offset-at.ensures c.width-w.ensures.0 c.field.ensures c.read16.ensures c.read16-2.ensures
