-- Gathering, from document 01: tests 12, 3, 2, 11 in that order, and the record and the table after.
-- Assumes nothing.
use Rattle.std.specs.Prelude.{◌≡◌, ℕ, zero, suc, ◌+◌, ◌-◌, ◌/◌, ◌<◌, ◌≤◌, Bool, true, false, List, [], ◌∷◌, length, ◌==◌, ◌≢◌, nat_lt, slice_index, slice_set}
use Rattle.model.specs.Tests.{pick, both, all}
use Rattle.model.specs.Answers.{Answer, accepted, refused}
use Rattle.gather_core.specs.declared.Gatherer.{Gatherer}

-- ---- answers

abbrev pub values_of : Gatherer → List ℕ
values_of g = g.entries ∷ g.rows ∷ g.first ∷ g.last ∷ []

-- the answer by the number of a refusal, 0 for none, and the record after
unfoldable pub answered : ℕ → Gatherer → Answer
answered zero g = accepted (values_of g)
answered (suc k) g = refused (suc k)

-- what is left of a table or of a record, by the number of a refusal, 0 for none: changed where no test refused
unfoldable pub kept : {A : Type 0} → ℕ → A → A → A
kept zero old new = new
kept (suc k) old new = old

-- ---- the tests

-- test 12: entries above the table's length or above rows, just one of the two zero, or, with rows, first of last seed above last row
unfoldable pub impossible : Gatherer → ℕ → Bool
impossible g room =
    pick (nat_lt room g.entries) true
    (pick (nat_lt g.rows g.entries) true
    (pick (g.rows == 0) false
    (pick (g.entries == 0) true
    (nat_lt g.last g.first))))

-- a row above the last row, if any
unfoldable pub above : Gatherer → ℕ → Bool
above g row = pick (g.rows == 0) true (nat_lt g.last row)

-- tests 12, 3 and 2, in that order, of n rows that rise from above the last row, or do not
unfoldable pub early : Gatherer → ℕ → Bool → ℕ → ℕ
early g room rising n = pick (impossible g room) 12 (pick rising (pick (nat_lt 65535 (g.rows + n)) 2 0) 3)

-- test 11
unfoldable pub late : Gatherer → ℕ → ℕ
late after room = pick (nat_lt room after.entries) 11 0

-- the first number that is not 0
unfoldable pub or_else : ℕ → ℕ → ℕ
or_else zero m = m
or_else (suc n) m = suc n

-- ---- a single row

-- it joins the last seed, if any, where it falls in the 4,096-window of that seed's first row
unfoldable pub joins : Gatherer → ℕ → Bool
joins g row = pick (g.rows == 0) false (row / 4096 == g.first / 4096)

-- the record with the row in
unfoldable pub added : Gatherer → ℕ → Gatherer
added g row =
    pick (joins g row)
    (record { entries = g.entries; rows = g.rows + 1; first = g.first; last = row })
    (record { entries = g.entries + 1; rows = g.rows + 1; first = row; last = row })

-- the end written is the new row total, at the last entry in use
unfoldable pub added_to : List ℕ → Gatherer → ℕ → List ℕ
added_to t g row = slice_set t ((added g row).entries - 1) (g.rows + 1)

unfoldable pub row_number : Gatherer → ℕ → ℕ → ℕ
row_number g room row = or_else (early g room (above g row) 1) (late (added g row) room)

unfoldable pub row_answer : Gatherer → ℕ → ℕ → Answer
row_answer g room row = answered (row_number g room row) (added g row)

unfoldable pub row_table : Gatherer → List ℕ → ℕ → List ℕ
row_table g t row = kept (row_number g (length t) row) t (added_to t g row)

-- ---- a page

-- rows that rise strictly
unfoldable pub up_at : List ℕ → ℕ → Bool
up_at rows i = nat_lt (slice_index rows i) (slice_index rows (i + 1))

unfoldable pub rises : List ℕ → Bool
rises rows = all (up_at rows) (length rows - 1)

abbrev pub first_of : List ℕ → ℕ
first_of rows = slice_index rows 0

abbrev pub last_of : List ℕ → ℕ
last_of rows = slice_index rows (length rows - 1)

-- a page of one seed
unfoldable pub one_seed : List ℕ → Bool
one_seed rows = nat_lt (last_of rows - first_of rows) 65535

-- the record and the table with rows in, each added singly
unfoldable pub added_all : Gatherer → List ℕ → Gatherer
added_all g [] = g
added_all g (r ∷ rs) = added_all (added g r) rs

unfoldable pub added_all_to : List ℕ → Gatherer → List ℕ → List ℕ
added_all_to t g [] = t
added_all_to t g (r ∷ rs) = added_all_to (added_to t g r) (added g r) rs

-- the record with a page in that is one seed
unfoldable pub seeded : Gatherer → List ℕ → Gatherer
seeded g rows = record { entries = g.entries + 1; rows = g.rows + length rows; first = first_of rows; last = last_of rows }

-- the record and the table with a page in that is not empty: one seed more, or row by row
unfoldable pub paged : Gatherer → List ℕ → Gatherer
paged g rows = pick (one_seed rows) (seeded g rows) (added_all g rows)

unfoldable pub paged_to : List ℕ → Gatherer → List ℕ → List ℕ
paged_to t g rows = pick (one_seed rows) (slice_set t g.entries (g.rows + length rows)) (added_all_to t g rows)

unfoldable pub some_number : Gatherer → ℕ → List ℕ → ℕ
some_number g room rows = or_else (early g room (both (above g (first_of rows)) (rises rows)) (length rows)) (late (paged g rows) room)

-- after test 12 an empty page is accepted and changes nothing
unfoldable pub page_number : Gatherer → ℕ → List ℕ → ℕ
page_number g room rows = pick (length rows == 0) (pick (impossible g room) 12 0) (some_number g room rows)

unfoldable pub page_answer : Gatherer → ℕ → List ℕ → Answer
page_answer g room rows = answered (page_number g room rows) (pick (length rows == 0) g (paged g rows))

unfoldable pub page_table : Gatherer → List ℕ → List ℕ → List ℕ
page_table g t rows = kept (page_number g (length t) rows) t (pick (length rows == 0) t (paged_to t g rows))

-- ---- what the storing functions need

-- counts that cannot wrap, and an entry for each row
pub record Counted (g : Gatherer) (n : ℕ) : Type 0 where
  pub few : g.rows + n ≤ 65535
  pub in_rows : g.entries ≤ g.rows
  pub some : (g.rows ≢ 0) → 1 ≤ g.entries

-- and room for a page that is not empty, and whose rows rise
pub record Paging (g : Gatherer) (room : ℕ) (rows : List ℕ) : Type 0 where
  pub counted : Counted g (length rows)
  pub any : 0 < length rows
  pub rising : rises rows ≡ true
  pub in_room : (paged g rows).entries ≤ room

-- ---- what the quick tests find

-- a row that has others before it, and that tests 12, 3 and 2 let pass
pub record Follows (g : Gatherer) (room row : ℕ) : Type 0 where
  pub some : 1 ≤ g.entries
  pub number : early g room (above g row) 1 ≡ 0

-- a row that no test refuses, and that goes on in the last seed, or not
pub record Goes (on : Bool) (g : Gatherer) (room row : ℕ) : Type 0 where
  pub in_seed : joins g row ≡ on
  pub number : row_number g room row ≡ 0

-- a page that is not empty, and that no test refuses
pub record GoesIn (g : Gatherer) (room : ℕ) (rows : List ℕ) : Type 0 where
  pub any : 0 < length rows
  pub number : some_number g room rows ≡ 0
