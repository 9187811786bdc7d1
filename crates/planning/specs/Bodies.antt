-- What a segmented body costs, its bytes, and the choice between it and the cheapest whole form: document 01, "Costs" and "Bodies by tag".
-- Assumes nothing.
use Rattle.std.specs.Prelude.{false, List, [], ◌∷◌, ◌++◌, ℕ, ◌+◌, ◌*◌, eqb, leb, length, get_or}
use Rattle.model.specs.Tests.{pick, flat}
use Rattle.model.specs.Lists.{positions_of}
use Rattle.stats.specs.declared.Stats.{Stats}
use Rattle.stats.specs.Statistics.{stats_of}
use Rattle.cost.specs.declared.Form.{Form}
use Rattle.cost.specs.Sizes.{depth_of}
use Rattle.cost.specs.Forms.{local_form, whole_form, order_of, lex}
use Rattle.single.specs.Layout.{first_of, extent_of, single_layout}
use Rattle.directory.specs.Layout.{Plan, directory_layout}
use Rattle.segmented.specs.Cuts.{Segment, payload}
use Rattle.planning.specs.Segments.{stats_each}

-- ---- the costs of segments

-- the bytes of their payloads, each the cheapest local form
unfoldable pub payloads : List Stats → ℕ
payloads [] = 0
payloads (s ∷ ss) = (local_form s).bytes + payloads ss

unfoldable pub larger : ℕ → ℕ → ℕ
larger a b = pick {A = ℕ} (leb a b) b a

-- the largest local depth, and the largest local words
unfoldable pub deepest : List Stats → ℕ
deepest [] = 0
deepest (s ∷ ss) = larger (local_form s).depth (deepest ss)

unfoldable pub widest : List Stats → ℕ
widest [] = 0
widest (s ∷ ss) = larger (local_form s).words (widest ss)

unfoldable pub segmented_form : List Stats → Form
segmented_form ss = record {
  tag = 9;
  trimmed = false;
  bytes = 4 + 16 * length ss + payloads ss;
  depth = depth_of (length ss) + deepest ss;
  words = widest ss;
}

-- ---- the bytes of a segmented body

unfoldable pub segment_at : List (List ℕ) → ℕ → List ℕ
segment_at segs i = get_or segs i []

-- the segment of rows: from its first row to its last, in its cheapest local form
unfoldable pub tag_of : List ℕ → ℕ
tag_of rows = (local_form (stats_of rows)).tag

abbrev pub segment_of : List ℕ → Segment
segment_of rows = record { start = first_of rows; span = extent_of rows; tag = tag_of rows; own = positions_of (first_of rows) rows }

unfoldable pub payload_of : List ℕ → List ℕ
payload_of rows = payload (segment_of rows)

unfoldable pub entries_of : List (List ℕ) → Plan
entries_of segs = record {
  start = λ i. first_of (segment_at segs i);
  span = λ i. extent_of (segment_at segs i);
  count = λ i. length (segment_at segs i);
  size = λ i. length (payload_of (segment_at segs i));
  tag = λ i. tag_of (segment_at segs i);
}

unfoldable pub payload_at : List (List ℕ) → ℕ → List ℕ
payload_at segs i = payload_of (segment_at segs i)

unfoldable pub segmented_layout : List (List ℕ) → List ℕ
segmented_layout segs = directory_layout (entries_of segs) (length segs) ++ flat (payload_at segs) (length segs)

-- ---- the choice

-- bytes, segments, depth, words, order; a whole form counts one segment
unfoldable pub choice_key : Form → ℕ → List ℕ
choice_key f segments = f.bytes ∷ segments ∷ f.depth ∷ f.words ∷ order_of f.tag ∷ []

unfoldable pub chosen : Form → Form → ℕ → Form
chosen whole segmented segments = pick (lex (choice_key segmented segments) (choice_key whole 1)) segmented whole

-- of rows over a span, in these segments
unfoldable pub form_for : ℕ → List ℕ → List (List ℕ) → Form
form_for span xs segs = chosen (whole_form (stats_of xs) span) (segmented_form (stats_each segs)) (length segs)

unfoldable pub layout_by : Form → ℕ → List ℕ → List (List ℕ) → List ℕ
layout_by f span xs segs = pick (eqb f.tag 9) (segmented_layout segs) (single_layout f.tag f.trimmed span xs)

unfoldable pub body_of : ℕ → List ℕ → List (List ℕ) → List ℕ
body_of span xs segs = layout_by (form_for span xs segs) span xs segs
