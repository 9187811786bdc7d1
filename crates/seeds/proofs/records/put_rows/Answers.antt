-- `seeds::records::put_rows` meets its contract.
-- Assumes nothing.
use Rattle.seeds.proofs.Placing.{placing_start, placing_range, placing_next}
use Rattle.seeds.proofs.records.put_rows.Goals as goal

pub loop-i-init : goal.loop-i-init
loop-i-init g c = placing_start _ _ _ _ _ c.requires

pub part_stats-requires : goal.part_stats-requires
part_stats-requires g c = placing_range _ _ _ _ _ c.requires _ _ _ c.loop-i.invariant c.loop-i-test.true _ c.seed_end-b.ensures

pub loop-i-preserved : goal.loop-i-preserved
loop-i-preserved g c =
    placing_next _ _ _ _ _ c.requires _ _ _ c.loop-i.invariant c.loop-i-test.true _ c.seed_end-b.ensures _ c.part_stats.ensures _ c.put_segment.ensures
