-- The bytes of a body of tags 1 to 8, from the rows: the header that document 01 gives each tag, and the local layout.
-- Assumes nothing.
use Rattle.std.specs.Prelude.{ℕ, suc, ◌-◌, Bool, List, ◌++◌, length, ◌==◌, slice_index}
use Rattle.fields.specs.Le.{digits}
use Rattle.model.specs.Tests.{pick}
use Rattle.model.specs.Lists.{runs_of, positions_of}
use Rattle.forms.specs.Forms.{local_layout}

-- the first row, and how many positions there are from the first to the last
unfoldable pub first_of : List ℕ → ℕ
first_of rows = slice_index rows 0

unfoldable pub extent_of : List ℕ → ℕ
extent_of rows = suc (slice_index rows (length rows - 1)) - first_of rows

-- over the whole span: count and number of runs, count and two zero bytes, or no header
unfoldable pub plain_layout : ℕ → ℕ → List ℕ → List ℕ
plain_layout tag span rows =
    pick (tag == 4) (digits 2 (length rows) ++ digits 2 (length (runs_of rows)) ++ local_layout 4 span rows)
    (pick (tag == 5) (digits 2 (length rows) ++ digits 2 (length (runs_of rows)) ++ local_layout 5 span rows)
    (pick (tag == 6) (digits 2 (length rows) ++ digits 2 0 ++ local_layout 6 span rows)
    (pick (tag == 7) (digits 2 (length rows) ++ digits 2 0 ++ local_layout 7 span rows)
    (local_layout tag span rows))))

-- from the first row to the last: the bitmap with its flag 1 and zero, then base and local span; the missing form with base, local span, count
unfoldable pub trimmed_layout : ℕ → List ℕ → List ℕ
trimmed_layout tag rows =
    pick (tag == 6)
    (digits 2 (length rows) ++ digits 2 1 ++ digits 4 (first_of rows) ++ digits 4 (extent_of rows) ++ local_layout 6 (extent_of rows) (positions_of (first_of rows) rows))
    (digits 4 (first_of rows) ++ digits 2 (extent_of rows) ++ digits 2 (length rows) ++ local_layout 7 (extent_of rows) (positions_of (first_of rows) rows))

unfoldable pub single_layout : ℕ → Bool → ℕ → List ℕ → List ℕ
single_layout tag trimmed span rows = pick trimmed (trimmed_layout tag rows) (plain_layout tag span rows)
