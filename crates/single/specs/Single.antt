-- Tags 1 to 8, a header and one local form: where each tag keeps its parts, which bodies are accepted, and the positions that they name.
-- Document 01, "Bodies by tag" and "Accepted".
-- Assumes nothing.
use Rattle.std.specs.Prelude.{◌≡◌, ℕ, ◌+◌, ◌-◌, ◌/◌, ◌%◌, ◌≤◌, Bool, true, false, List, length, drop, ◌==◌, nat_le, nat_lt, slice_index}
use Rattle.fields.specs.Le.{le}
use Rattle.model.specs.Tests.{both, pick}
use Rattle.model.specs.Lists.{has, shift}
use Rattle.model.specs.declared.Place.{Place}
use Rattle.forms.specs.Forms.{local_accepts, local_names, local_sized, local_place, local_select, local_walk}
use Rattle.single.specs.declared.View.{View}

abbrev pub view : ℕ → Bool → ℕ → ℕ → ℕ → ℕ → View
view form trimmed base span count offset = record { form = form; trimmed = trimmed; base = base; span = span; count = count; offset = offset }

-- the bytes that a header has at least: what must be there before any field is read
unfoldable pub header_of : ℕ → ℕ
header_of tag = pick (tag == 8) 8 (pick (nat_lt tag 4) 0 (pick (nat_lt tag 8) 4 0))

-- a count that no u16 holds is no count
unfoldable pub fit : ℕ → ℕ
fit n = pick (nat_le n 65535) n 0

-- a bitmap is trimmed where its flag is 1. A trimmed header that is not all there has no span, so that nothing is accepted
unfoldable pub bitmap_view : ℕ → List ℕ → View
bitmap_view span xs =
    pick (slice_index xs 2 == 1)
    (pick (nat_le 12 (length xs)) (view 6 true (le 4 xs 4) (le 4 xs 8) (le 2 xs 0) 12) (view 6 false 0 0 (le 2 xs 0) 12))
    (view 6 false 0 span (le 2 xs 0) 4)

unfoldable pub trimmed_missing_view : List ℕ → View
trimmed_missing_view xs = view 7 true (le 4 xs 0) (le 2 xs 4) (le 2 xs 6) 8

-- the local form, whether it is trimmed, the base and the local span, the count, and where its bytes start
unfoldable pub view_of : ℕ → ℕ → List ℕ → View
view_of tag span xs =
    pick (tag == 1) (view 1 false 0 span (fit span) 0)
    (pick (tag == 2) (view 2 false 0 span (fit (length xs / 4)) 0)
    (pick (tag == 3) (view 3 false 0 span (fit (length xs / 2)) 0)
    (pick (tag == 4) (view 4 false 0 span (le 2 xs 0) 4)
    (pick (tag == 5) (view 5 false 0 span (le 2 xs 0) 4)
    (pick (tag == 6) (bitmap_view span xs)
    (pick (tag == 7) (view 7 false 0 span (le 2 xs 0) 4)
    (pick (tag == 8) (trimmed_missing_view xs)
    (view 0 false 0 span 0 0))))))))

-- the fields beside the count: the number of runs, the flag and the zero of a bitmap, the zero of a missing form
unfoldable pub fields_ok : ℕ → List ℕ → Bool
fields_ok tag xs =
    pick (tag == 4) (le 2 xs 2 == (length xs - 4) / 6)
    (pick (tag == 5) (le 2 xs 2 == (length xs - 4) / 8)
    (pick (tag == 6) (both (nat_le (slice_index xs 2) 1) (slice_index xs 3 == 0))
    (pick (tag == 7) (le 2 xs 2 == 0) true)))

-- the bytes of the local form, and what it names, counted from its base
abbrev pub part_in : View → List ℕ → List ℕ
part_in v xs = drop v.offset xs

unfoldable pub named_in : View → List ℕ → List ℕ
named_in v xs = local_names v.form (part_in v xs) v.span v.count

-- both ends of a trimmed form are present
unfoldable pub ends_ok : View → List ℕ → Bool
ends_ok v xs = pick v.trimmed (both (has (named_in v xs) 0) (has (named_in v xs) (v.span - 1))) true

-- the header is there, the local form lies in the span and is accepted
unfoldable pub view_accepts : View → ℕ → List ℕ → Bool
view_accepts v span xs =
    both (nat_le v.offset (length xs)) (both (nat_le (v.base + v.span) span) (both (local_accepts v.form (part_in v xs) v.span v.count) (ends_ok v xs)))

unfoldable pub single_accepts : ℕ → ℕ → List ℕ → Bool
single_accepts tag span xs = both (fields_ok tag xs) (view_accepts (view_of tag span xs) span xs)

unfoldable pub single_names : ℕ → ℕ → List ℕ → List ℕ
single_names tag span xs = shift (view_of tag span xs).base (named_in (view_of tag span xs) xs)

-- ---- what the readers answer, on any bytes of the right length

-- the header is there, and the local form has the length that its readers want
pub record Readable (v : View) (xs : List ℕ) : Type 0 where
  pub room : v.offset ≤ length xs
  pub sized : local_sized v.form (length xs - v.offset) v.span v.count ≡ true

-- below the base nothing stands
unfoldable pub view_place : View → List ℕ → ℕ → Place
view_place v xs p =
    pick (nat_lt p v.base) (record { below = 0; present = false }) (local_place v.form (part_in v xs) v.span v.count (p - v.base))

-- in 32 bits, as the walk
unfoldable pub view_select : View → List ℕ → ℕ → ℕ
view_select v xs k = (v.base + local_select v.form (part_in v xs) v.span v.count k) % 4294967296

unfoldable pub view_walk : View → List ℕ → ℕ → ℕ → List ℕ
view_walk v xs k room = local_walk v.form (part_in v xs) v.span v.count k v.base room
