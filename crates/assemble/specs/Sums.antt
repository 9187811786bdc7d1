-- What segments cost together, segment after segment, and what a walk over the records answers.
-- Assumes nothing.
use Rattle.std.specs.Prelude.{◌≡◌, false, List, ℕ, ◌+◌, ◌*◌, ◌<◌, ◌≤◌, length}
use Rattle.model.specs.Lists.{Rising}
use Rattle.stats.specs.declared.Stats.{Stats}
use Rattle.stats.specs.Statistics.{stats_of, joined, span_of, Neighbours}
use Rattle.cost.specs.Sizes.{depth_of}
use Rattle.cost.specs.Forms.{local_form}
use Rattle.planning.specs.Segments.{stats_each}
use Rattle.planning.specs.Bodies.{larger, segmented_form}
use Rattle.planning.specs.Held.{Held}
use Rattle.assemble.specs.declared.Tally.{Tally}
use Rattle.assemble.specs.declared.Summary.{Summary}

-- a segment alone, and one segment more
unfoldable pub one : Stats → Tally
one s = record { segments = 1; bytes = (local_form s).bytes; depth = (local_form s).depth; words = (local_form s).words; stats = s }

unfoldable pub also : Tally → Stats → Tally
also t s = record {
  segments = t.segments + 1;
  bytes = t.bytes + (local_form s).bytes;
  depth = larger t.depth (local_form s).depth;
  words = larger t.words (local_form s).words;
  stats = joined t.stats s;
}

-- the directory put before them
unfoldable pub finished : Tally → Summary
finished t = record {
  segments = t.segments;
  form = record { tag = 9; trimmed = false; bytes = 4 + 16 * t.segments + t.bytes; depth = depth_of t.segments + t.depth; words = t.words };
  stats = t.stats;
}

-- as large as so many segments can be, each of a span of 16 bits
pub record Bounded (t : Tally) : Type 0 where
  pub few : t.segments ≤ 65535
  pub size : t.bytes ≤ 8704 * t.segments
  pub low : t.depth ≤ 64

-- a segment that can be put behind the others
pub record Adds (t : Tally) (s : Stats) : Type 0 where
  pub bounded : Bounded t
  pub pair : Neighbours t.stats s
  pub short : span_of s ≤ 65535

-- the records lead from 0 through one segment or more of some rows
pub record Known (n : ℕ) (t : List ℕ) : Type 0 where
  pub seeds : n < 65536
  pub room : n * 8 + 8 ≤ length t
  pub rows : List ℕ
  pub rising : Rising 0 4294967295 rows
  pub segs : List (List ℕ)
  pub some : 1 ≤ length segs
  pub held : Held n t 0 rows segs

-- the answer is that of any rows and segments that the records hold: they hold one cut of one row list
pub record Summed (n : ℕ) (t : List ℕ) (r : Summary) : Type 0 where
  pub segments : (xs : List ℕ) (segs : List (List ℕ)) → Held n t 0 xs segs → r.segments ≡ length segs
  pub form : (xs : List ℕ) (segs : List (List ℕ)) → Held n t 0 xs segs → r.form ≡ segmented_form (stats_each segs)
  pub stats : (xs : List ℕ) (segs : List (List ℕ)) → Held n t 0 xs segs → r.stats ≡ stats_of xs
