-- `seeds::records::window_end` meets its contract.
-- Assumes nothing.
use Rattle.std.proofs.Common.{arith}
use Rattle.std.proofs.lemmas.List.{length-map}
use Rattle.seeds.proofs.Windows.{walking_next, walking_stop}
use Rattle.seeds.proofs.records.window_end.Goals as goal

pub returns-then-not-together : goal.returns-then-not-together
returns-then-not-together g c =
    walking_stop _ _ _ c.loop-j.invariant _ (rw (c.row_at.ensures, c.row_at-in-loop-j.ensures) at c.together.ensures) c.if-not-together.true

pub loop-j-preserved : goal.loop-j-preserved
loop-j-preserved g c =
    walking_next _ _ _ c.loop-j.invariant _ (rw (c.row_at.ensures, c.row_at-in-loop-j.ensures) at c.together.ensures) (omega (arith, length-map c.args.rows.now g.R.Row.number)) c.if-not-together.false
