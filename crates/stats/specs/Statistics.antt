-- Statistics of a segment's positions: all that its costs are made from.
-- Assumes nothing.
use Rattle.std.specs.Prelude.{List, ℕ, suc, ◌+◌, ◌-◌, ◌<◌, ◌≤◌, eqb, length, get_or}
use Rattle.model.specs.Tests.{pick}
use Rattle.model.specs.Lists.{runs_of}
use Rattle.stats.specs.declared.Stats.{Stats}

-- the statistics of positions
unfoldable pub stats_of : List ℕ → Stats
stats_of xs = record { first = get_or xs 0 0; last = get_or xs (length xs - 1) 0; count = length xs; runs = length (runs_of xs) }

-- the statistics of two neighbours as one: where the right one goes on from the left one's last position, two runs are one
unfoldable pub joined : Stats → Stats → Stats
joined a b = record { first = a.first; last = b.last; count = a.count + b.count; runs = a.runs + b.runs - pick (eqb b.first (suc a.last)) 1 0 }

-- L, the positions from first to last
abbrev pub span_of : Stats → ℕ
span_of s = s.last - s.first + 1

-- H, those of them that are no rows
abbrev pub holes_of : Stats → ℕ
holes_of s = span_of s - s.count

-- what holds of the statistics of any rows, one or more, that rise in a span of at most 4,294,967,295
pub record Sound (s : Stats) : Type 0 where
  pub ordered : s.first ≤ s.last
  pub below : s.last < 4294967295
  pub some : 1 ≤ s.runs
  pub few : s.runs ≤ s.count
  pub inside : s.count ≤ span_of s

-- two that can be joined: the right one begins after the left one's last position
pub record Neighbours (a b : Stats) : Type 0 where
  pub left : Sound a
  pub right : Sound b
  pub apart : a.last < b.first
