-- `seeds::seeds_near` meets its contract.
-- Assumes nothing.
use Rattle.std.proofs.lemmas.List.{length-map}
use Rattle.seeds.proofs.Ends.{nearing_start, nearing_range, nearing_next}
use Rattle.seeds.proofs.seeds_near.Goals as goal

pub loop-end-init : goal.loop-end-init
loop-end-init g c = nearing_start _ _

pub near-ok-requires : goal.near-ok-requires
near-ok-requires g c =
    let e = length-map c.args.rows.now g.R.Row.number in
    rw e at (nearing_range _ _ _ _ _ _ c.loop-end.invariant c.loop-end-test.true c.from-b.ensures (rw e c.requires))

pub loop-end-preserved : goal.loop-end-preserved
loop-end-preserved g c = nearing_next _ _ _ _ _ _ c.loop-end.invariant c.loop-end-test.true c.from-b.ensures _ c.near-ok.ensures
