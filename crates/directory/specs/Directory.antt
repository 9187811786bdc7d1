-- The directory of a segmented body (tag 9): its fields, what is accepted, and what the segments name together.
-- What one segment holds is a parameter: a function g from the segment's index to positions counted from its start.
-- Assumes nothing.
use Rattle.std.specs.Prelude.{Bool, true, false, List, ℕ, zero, suc, ◌+◌, ◌*◌, leb, eqb, length, take, drop}
use Rattle.fields.specs.Le.{le}
use Rattle.model.specs.Tests.{both, pick, all, flat, total}
use Rattle.model.specs.Lists.{counted, shift}
use Rattle.search.specs.Search.{entry, find, up_to}
use Rattle.directory.specs.declared.Segment.{Segment}

-- ---- the fields: count u16, segments u16, then 16 bytes per segment

abbrev pub stated_count : List ℕ → ℕ
stated_count xs = le 2 xs 0

abbrev pub stated_segments : List ℕ → ℕ
stated_segments xs = le 2 xs 2

abbrev pub start_at : List ℕ → ℕ → ℕ
start_at xs = entry 4 xs 4 16

abbrev pub span_at : List ℕ → ℕ → ℕ
span_at xs = entry 2 xs 8 16

abbrev pub count_at : List ℕ → ℕ → ℕ
count_at xs = entry 2 xs 10 16

abbrev pub ordinal_at : List ℕ → ℕ → ℕ
ordinal_at xs = entry 2 xs 12 16

abbrev pub offset_at : List ℕ → ℕ → ℕ
offset_at xs = entry 2 xs 14 16

abbrev pub length_at : List ℕ → ℕ → ℕ
length_at xs = entry 2 xs 16 16

abbrev pub tag_at : List ℕ → ℕ → ℕ
tag_at xs = entry 1 xs 18 16

abbrev pub zero_at : List ℕ → ℕ → ℕ
zero_at xs = entry 1 xs 19 16

-- entry i of the directory
unfoldable pub entry_of : List ℕ → ℕ → Segment
entry_of xs i = record {
  start = start_at xs i;
  span = span_at xs i;
  count = count_at xs i;
  ordinal = ordinal_at xs i;
  offset = offset_at xs i;
  length = length_at xs i;
  tag = tag_at xs i;
}

-- the payload of segment i
unfoldable pub part_of : List ℕ → ℕ → List ℕ
part_of xs i = take (length_at xs i) (drop (offset_at xs i) xs)

-- ---- what stands before segment i

-- the rows of the segments before it
abbrev pub rows_before : List ℕ → ℕ → ℕ
rows_before xs = total (count_at xs)

-- the bytes of their payloads
abbrev pub bytes_before : List ℕ → ℕ → ℕ
bytes_before xs = total (length_at xs)

-- the bytes of a directory of n segments
abbrev pub directory_size : ℕ → ℕ
directory_size n = 4 + 16 * n

-- where the segment before it ends
unfoldable pub end_before : List ℕ → ℕ → ℕ
end_before xs zero = 0
end_before xs (suc i) = start_at xs i + span_at xs i

-- ---- what is accepted

-- the tags of local forms
unfoldable pub is_local : ℕ → Bool
is_local t = pick (eqb t 1) true (pick (eqb t 3) true (pick (eqb t 4) true (pick (eqb t 6) true (eqb t 7))))

-- a segment that starts at `free` or after, ends within the span, has a count that its own span has room for, a local form's
-- tag and a zero byte, and states the rows before it and where its payload lies
unfoldable pub fits : Segment → ℕ → ℕ → ℕ → ℕ → ℕ → Bool
fits e nought free rows at span =
    both (both (leb free e.start) (leb (e.start + e.span) span))
    (both (both (counted e.span e.count) (both (is_local e.tag) (eqb nought 0)))
    (both (eqb e.ordinal rows) (eqb e.offset at)))

-- segment i of n: rising and not overlapping, ordinals adding up, payloads in order without gaps
unfoldable pub segment_fits : List ℕ → ℕ → ℕ → ℕ → Bool
segment_fits xs span n i = fits (entry_of xs i) (zero_at xs i) (end_before xs i) (rows_before xs i) (directory_size n + bytes_before xs i) span

-- n segments that fit, and have the stated rows together, and whose payloads end where the body ends
unfoldable pub segments_fit : List ℕ → ℕ → ℕ → Bool
segments_fit xs span n =
    both (all (segment_fits xs span n) n)
    (both (eqb (rows_before xs n) (stated_count xs))
    (eqb (directory_size n + bytes_before xs n) (length xs)))

-- at least one segment, a directory inside the body, a count that the span has room for, and segments that fit
unfoldable pub directory_accepts : List ℕ → ℕ → Bool
directory_accepts xs span =
    both (leb 4 (length xs))
    (both (leb 1 (stated_segments xs))
    (both (leb (directory_size (stated_segments xs)) (length xs))
    (both (counted span (stated_count xs))
    (segments_fit xs span (stated_segments xs)))))

-- ---- searching

-- how many of n segments start at p or before
abbrev pub starts_to : List ℕ → ℕ → ℕ → ℕ
starts_to xs n p = find (up_to false (start_at xs) p) 0 n

-- how many of n segments state at most k rows before them
abbrev pub ordinals_to : List ℕ → ℕ → ℕ → ℕ
ordinals_to xs n k = find (up_to false (ordinal_at xs) k) 0 n

-- ---- what is named, if segment i names g i counted from its start

unfoldable pub piece_of : List ℕ → (ℕ → List ℕ) → ℕ → List ℕ
piece_of xs g i = shift (start_at xs i) (g i)

unfoldable pub names_of : List ℕ → (ℕ → List ℕ) → List ℕ
names_of xs g = flat (piece_of xs g) (stated_segments xs)
