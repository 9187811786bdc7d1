-- `seeds::records::part_stats` meets its contract.
-- Assumes nothing.
use Rattle.std.proofs.Common.{ap, ◌∙◌}
use Rattle.stats.specs.Statistics.{stats_of}
use Rattle.seeds.proofs.Placing.{map_part, part_within, part_positions}
use Rattle.seeds.proofs.records.part_stats.Goals as goal

pub rows_stats-requires : goal.rows_stats-requires
rows_stats-requires g c = rw (map_part g.R.Row.number c.args.rows.now) (part_within _ _ _ _ c.requires)

pub returns : goal.returns
returns g c = (rw (map_part g.R.Row.number c.args.rows.now) at c.rows_stats.ensures) ∙ ap stats_of (part_positions _ _ _ _)
