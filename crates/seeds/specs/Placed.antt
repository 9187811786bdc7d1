-- The seeds' statistics in their records: what is asked for it, and what the records hold then.
-- Assumes nothing.
use Rattle.std.specs.Prelude.{◌≡◌, true, List, ℕ, suc, ◌<◌, ◌≤◌, length}
use Rattle.stats.specs.Statistics.{stats_of}
use Rattle.model.specs.Lists.{positions_of}
use Rattle.stats.specs.Rows.{Covered}
use Rattle.gather_core.specs.Seeds.{start_of}
use Rattle.links.specs.Tables.{base, stat_at}
use Rattle.planning.specs.Refusals.{given_fit, ends_of}
use Rattle.planning.specs.Segments.{between}

-- rows in a coverage with n seeds, given or windows, and a workspace with a record for each cut
pub record Seeded (start : ℕ) (rows seeds : List ℕ) (n : ℕ) (work : List ℕ) : Type 0 where
  pub covered : Covered start rows
  pub fits : given_fit rows seeds ≡ true
  pub number : n ≡ length (ends_of rows seeds)
  pub room : base n ≤ length work

-- each of the first n seeds has its statistics in its record
pub record Placed (start : ℕ) (rows seeds : List ℕ) (n : ℕ) (before after : List ℕ) : Type 0 where
  pub len : length after ≡ length before
  pub stats : (i : ℕ) → i < n → stat_at after i ≡ stats_of (between (positions_of start rows) (ends_of rows seeds) i (suc i))

-- a is where seed i starts
pub record Begun (rows seeds : List ℕ) (i a : ℕ) : Type 0 where
  pub some : 1 ≤ length rows
  pub fits : given_fit rows seeds ≡ true
  pub seed : i < length (ends_of rows seeds)
  pub from : a ≡ start_of (ends_of rows seeds) i

-- the rows of a coverage from index a up to index b, one or more
pub record Ranged (start : ℕ) (rows : List ℕ) (a b : ℕ) : Type 0 where
  pub covered : Covered start rows
  pub some : a < b
  pub inside : b ≤ length rows
