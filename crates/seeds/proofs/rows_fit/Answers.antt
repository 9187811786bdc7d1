-- `seeds::rows_fit` meets its contract.
-- Assumes nothing.
use Rattle.std.proofs.lemmas.List.{length-map}
use Rattle.seeds.proofs.Judging.{rows_tested}
use Rattle.seeds.proofs.rows_fit.Goals as goal

pub returns : goal.returns
returns g c =
    let e = length-map c.args.rows.now g.R.Row.number in
    rw (c.row_at-first.ensures, c.row_at-last.ensures, ← e) (rows_tested _ _ _ _ c.rise.ensures)
