-- The bodies of the nine tags, as document 01's "Bodies by tag" has them: for each tag, when a body holds a list over a span. A record
-- says what the form asks of the list, beside that it is a row set over the span (rising below it, 1 to 65,535 positions), and the bytes.
-- Assumes nothing.
use Rattle.std.specs.Prelude.{◌≡◌, true, ◌⊎◌, List, [], ◌++◌, ℕ, ◌+◌, ◌-◌, ◌^◌, ◌≤◌, length}
use Rattle.fields.specs.Le.{digits, Bytes}
use Rattle.model.specs.Lists.{Rising, has, shift, runs_of}
use Rattle.lists.specs.Lists.{list_layout}
use Rattle.runs.specs.Runs.{runs_layout}
use Rattle.bitmap.specs.Body.{bitmap_layout}
use Rattle.missing.specs.Missing.{missing_layout}
use Rattle.forms.specs.RowSets.{RowSet}
use Rattle.segmented.specs.Cuts.{Segment, CutFits, cut_rows, cut_layout}
use Rattle.bodies.specs.Bodies.{accepts, names, Holds}

-- 1 DENSE: empty, count = span ≤ 65,535
pub record Dense (span : ℕ) (rows body : List ℕ) : Type 0 where
  pub held : RowSet span rows
  pub whole : length rows ≡ span
  pub narrow : span ≤ 65535
  pub bytes : body ≡ []

-- 2 LIST32 (w = 4), 3 LIST16 (w = 2): the positions, in w bytes each
pub record Items (w span : ℕ) (rows body : List ℕ) : Type 0 where
  pub held : RowSet span rows
  pub fields : Rising 0 (256 ^ w) rows
  pub bytes : body ≡ list_layout w rows

-- 4 RUNS16 (w = 2), 5 RUNS32 (w = 4): count u16, runs u16, then of each run its start in w bytes, length u16, rows before u16. Every
-- position is below 256^w, and so a run ends there or before
pub record Runs (w span : ℕ) (rows body : List ℕ) : Type 0 where
  pub held : RowSet span rows
  pub fields : Rising 0 (256 ^ w) rows
  pub bytes : body ≡ digits 2 (length rows) ++ digits 2 (length (runs_of rows)) ++ runs_layout w rows

-- a trimmed form: base + local span ≤ span, the rows counted from the base are a row set over the local span, and both ends are present
pub record Trimmed (span base extent : ℕ) (own rows : List ℕ) : Type 0 where
  pub inside : base + extent ≤ span
  pub held : RowSet extent own
  pub low : has own 0 ≡ true
  pub high : has own (extent - 1) ≡ true
  pub rows_are : rows ≡ shift base own

-- 6 BITMAP: count u16, flag 0, zero; rows before each 256 positions, then words
pub record PlainBitmap (span : ℕ) (rows body : List ℕ) : Type 0 where
  pub held : RowSet span rows
  pub bytes : body ≡ digits 2 (length rows) ++ digits 2 0 ++ bitmap_layout span rows

-- or count u16, flag 1, zero, base u32, local span u32; then the same of the local span
pub record TrimmedBitmap (span : ℕ) (rows body : List ℕ) : Type 0 where
  pub base : ℕ
  pub extent : ℕ
  pub own : List ℕ
  pub trimmed : Trimmed span base extent own rows
  pub bytes : body ≡ digits 2 (length own) ++ digits 2 1 ++ digits 4 base ++ digits 4 extent ++ bitmap_layout extent own

abbrev pub Bitmap : ℕ → List ℕ → List ℕ → Type 0
Bitmap span rows body = PlainBitmap span rows body ⊎ TrimmedBitmap span rows body

-- 7 MISSING: count u16, zero u16, holes u16; span ≤ 65,535
pub record Missing (span : ℕ) (rows body : List ℕ) : Type 0 where
  pub held : RowSet span rows
  pub narrow : span ≤ 65535
  pub bytes : body ≡ digits 2 (length rows) ++ digits 2 0 ++ missing_layout span rows

-- 8 TRIMMED_MISSING: base u32, local span u16, count u16, holes
pub record TrimmedMissing (span : ℕ) (rows body : List ℕ) : Type 0 where
  pub base : ℕ
  pub extent : ℕ
  pub own : List ℕ
  pub trimmed : Trimmed span base extent own rows
  pub narrow : extent ≤ 65535
  pub bytes : body ≡ digits 4 base ++ digits 2 extent ++ digits 2 (length own) ++ missing_layout extent own

-- 9 SEGMENTED: any cut into segments, each in any local form that can hold its rows
pub record Segmented (span : ℕ) (rows body : List ℕ) : Type 0 where
  pub n : ℕ
  pub at : ℕ → Segment
  pub fits : CutFits span n at
  pub rows_are : rows ≡ cut_rows at n
  pub bytes : body ≡ cut_layout at n

-- the accepted bodies of a tag are exactly those that hold a list, and the list is then the one named
pub record Exactly (tag : ℕ) (Form : ℕ → List ℕ → List ℕ → Type 0) : Type 0 where
  pub body_to_rows : (span : ℕ) (body : List ℕ) → Bytes body → accepts tag span body ≡ true → Form span (names tag span body) body
  pub rows_to_body : (span : ℕ) (rows body : List ℕ) → span ≤ 4294967295 → Form span rows body → Holds tag span rows body
