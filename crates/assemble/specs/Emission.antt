-- What is written of one segment, from its statistics and its rows, and what is asked and left by a segmented body.
-- Assumes nothing.
use Rattle.std.specs.Prelude.{◌≡◌, List, ℕ, ◌+◌, ◌*◌, ◌<◌, ◌≤◌, length, get_or}
use Rattle.model.specs.Lists.{Rising, positions_of}
use Rattle.stats.specs.declared.Stats.{Stats}
use Rattle.stats.specs.Statistics.{span_of, Sound}
use Rattle.stats.specs.Rows.{Covered}
use Rattle.cost.specs.declared.Form.{Form}
use Rattle.cost.specs.Forms.{local_form}
use Rattle.forms.specs.Forms.{local_layout}
use Rattle.directory.specs.Directory.{directory_size}
use Rattle.directory.specs.declared.Segment.{Segment}
use Rattle.emit.specs.Written.{Written}
use Rattle.planning.specs.Bodies.{segmented_layout, layout_by}
use Rattle.planning.specs.Held.{Held}
use Rattle.assemble.specs.Sums.{Summed}
use Rattle.assemble.specs.declared.Summary.{Summary}

-- the rows counted from their first, in the cheapest local form
unfoldable pub payload_by : Stats → List ℕ → List ℕ
payload_by s rows = local_layout (local_form s).tag (span_of s) (positions_of (get_or rows 0 0) rows)

unfoldable pub entry_by : Stats → ℕ → ℕ → ℕ → ℕ → Segment
entry_by s tag ordinal offset size = record { start = s.first; span = span_of s; count = s.count; ordinal = ordinal; offset = offset; length = size; tag = tag }

-- numbers that an entry has room for
pub record Small (s : Stats) (ordinal offset size : ℕ) : Type 0 where
  pub ordered : s.first ≤ s.last
  pub short : span_of s ≤ 65535
  pub count : s.count ≤ 65535
  pub ordinals : ordinal ≤ 65535
  pub offsets : offset ≤ 65535
  pub sizes : size ≤ 65535

-- rows with these statistics, and room for their payload from at on and for entry i, in a body of at most 65,535 bytes
pub record Piece (s : Stats) (rows : List ℕ) (at i ordinal room : ℕ) : Type 0 where
  pub sound : Sound s
  pub some : 1 ≤ length rows
  pub count : s.count ≡ length rows
  pub rising : Rising (get_or rows 0 0) (get_or rows 0 0 + span_of s) rows
  pub small : Small s ordinal at (length (payload_by s rows))
  pub fits : at + length (payload_by s rows) ≤ room
  pub index : i ≤ 65535
  pub entry : directory_size i + 16 ≤ room

-- the records hold the rows in segments
pub record Kept (n : ℕ) (t : List ℕ) (start : ℕ) (rows : List ℕ) : Type 0 where
  pub seeds : n < 65536
  pub words : n * 8 + 8 ≤ length t
  pub covered : Covered start rows
  pub few : length rows ≤ 65535
  pub segs : List (List ℕ)
  pub held : Held n t 0 (positions_of start rows) segs

-- so many segments, and their body has room
pub record Emittable (n : ℕ) (t : List ℕ) (start : ℕ) (rows : List ℕ) (m room : ℕ) : Type 0 where
  pub kept : Kept n t start rows
  pub count : m ≡ length kept.segs
  pub fits : length (segmented_layout kept.segs) ≤ room
  pub short : length (segmented_layout kept.segs) ≤ 65535

-- the segmented body of the rows stands from the front on, in whichever segments the records hold them: there is one such cut
pub record Emitted (n : ℕ) (t : List ℕ) (start : ℕ) (rows before after : List ℕ) (r : ℕ) : Type 0 where
  pub written : (segs : List (List ℕ)) → Held n t 0 (positions_of start rows) segs → Written (segmented_layout segs) 0 before after r

-- the body that a form asks for has room; f is the form, over a span, and the answer for the records is known
pub record Writable (n : ℕ) (t : List ℕ) (start : ℕ) (rows : List ℕ) (span : ℕ) (f : Form) (sum : Summary) (room : ℕ) : Type 0 where
  pub kept : Kept n t start rows
  pub rising : Rising start (start + span) rows
  pub summed : Summed n t sum
  pub fits : length (layout_by f span (positions_of start rows) kept.segs) ≤ room
  pub short : length (layout_by f span (positions_of start rows) kept.segs) ≤ 65535

-- that body stands from the front on
pub record Laid (n : ℕ) (t : List ℕ) (start : ℕ) (rows : List ℕ) (span : ℕ) (f : Form) (before after : List ℕ) (r : ℕ) : Type 0 where
  pub written : (segs : List (List ℕ)) → Held n t 0 (positions_of start rows) segs → Written (layout_by f span (positions_of start rows) segs) 0 before after r
