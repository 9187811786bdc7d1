-- Tag 9 from rows to bytes: rows in segments, cut anywhere, each in any local form that can hold it.
-- Assumes nothing.
use Rattle.std.specs.Prelude.{◌≡◌, ℕ, suc, ◌+◌, ◌<◌, ◌≤◌, true, List, ◌++◌, length}
use Rattle.model.specs.Tests.{flat, total}
use Rattle.model.specs.Lists.{shift}
use Rattle.directory.specs.Directory.{is_local, directory_size}
use Rattle.directory.specs.Layout.{Plan, directory_layout}
use Rattle.forms.specs.Forms.{local_layout}
use Rattle.forms.specs.RowSets.{RowSet}

-- a segment: where it starts, its span, the tag of its local form, and its rows counted from its start
pub record Segment : Type 0 where
  pub start : ℕ
  pub span : ℕ
  pub tag : ℕ
  pub own : List ℕ

-- its payload
abbrev pub payload : Segment → List ℕ
payload s = local_layout s.tag s.span s.own

-- it lies within the span, its own span is a u16, its tag is 1, 3, 4, 6 or 7, a dense one has every position, and its length is a u16
pub record SegmentFits (span : ℕ) (s : Segment) : Type 0 where
  pub within : s.start + s.span ≤ span
  pub narrow : s.span ≤ 65535
  pub held : RowSet s.span s.own
  pub local : is_local s.tag ≡ true
  pub full : s.tag ≡ 1 → length s.own ≡ s.span
  pub short : length (payload s) ≤ 65535

-- what the directory states of segments: count and length are those of the rows and of the payload, ordinals and offsets are their sums
unfoldable pub entries_for : (ℕ → Segment) → Plan
entries_for at = record {
  start = λ i. (at i).start;
  span = λ i. (at i).span;
  count = λ i. length (at i).own;
  size = λ i. length (payload (at i));
  tag = λ i. (at i).tag;
}

-- the directory of n segments, then their payloads in order without gaps
unfoldable pub cut_layout : (ℕ → Segment) → ℕ → List ℕ
cut_layout at n = directory_layout (entries_for at) n ++ flat (λ (i : ℕ). payload (at i)) n

-- the rows of n segments
unfoldable pub cut_rows : (ℕ → Segment) → ℕ → List ℕ
cut_rows at n = flat (λ (i : ℕ). shift (at i).start (at i).own) n

-- 1 to 65,535 segments that fit, rising and not overlapping, with at most 65,535 rows together, each payload at an offset that is a u16
pub record CutFits (span n : ℕ) (at : ℕ → Segment) : Type 0 where
  pub some : 1 ≤ n
  pub most : n ≤ 65535
  pub each : (i : ℕ) → i < n → SegmentFits span (at i)
  pub apart : (i : ℕ) → suc i < n → (at i).start + (at i).span ≤ (at (suc i)).start
  pub few : total (λ (i : ℕ). length (at i).own) n ≤ 65535
  pub offsets : (i : ℕ) → i < n → directory_size n + total (λ (j : ℕ). length (payload (at j))) i ≤ 65535
