-- `gather_core::rising::steps` meets its contract.
-- Assumes nothing.
use Rattle.std.proofs.Common.{◌+◌, get_or-drop, rules}
use Rattle.gather_core.proofs.Steps.{behind_more}
use Rattle.gather_core.proofs.rising.steps.Goals as goal

pub loop-row-preserved : goal.loop-row-preserved
loop-row-preserved c =
    let l = c.loop-row in
    let row = c.type_inv.rows (c.args.from + l.row-index) in
    behind_more _ _ l.before _ _ _ c.loop-row-test.true (search rules) (rw get_or-drop (search rules)) l.invariant.0 l.invariant.1
