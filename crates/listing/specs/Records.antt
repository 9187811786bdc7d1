-- A record of the input, as document 01's 'The listing' has it: length u32 big-endian, then tag, span u32 big-endian, body.
-- Assumes nothing.
use Rattle.std.specs.Prelude.{Bool, true, false, List, ℕ, zero, suc, ◌+◌, ◌-◌, ◌*◌, eqb, ltb, leb, length, get_or, drop}
use Rattle.model.specs.Tests.{both, pick}
use Rattle.model.specs.Answers.{Answer}
use Rattle.rowset.specs.Calls.{validate_of}
use Rattle.listing.specs.declared.records.Figures.{Figures}
use Rattle.listing.specs.declared.records.Line.{Line}
use Rattle.listing.specs.declared.records.Line.TheVariants.{Listed, Refused, Broken, Version, End}
use Rattle.listing.specs.declared.records.Next.{Next}
use Rattle.listing.specs.declared.records.Next.TheVariants as next

-- the big-endian number that the n bytes of xs from at on make
unfoldable pub be : ℕ → List ℕ → ℕ → ℕ
be zero xs at = 0
be (suc n) xs at = 256 * be n xs at + get_or xs (at + n) 0

-- a record's length, the bytes after it: not below 5 and not above 65,540
unfoldable pub sized : ℕ → Bool
sized n = both (leb 5 n) (leb n 65540)

-- what follows a length n, where `have` bytes after it are at hand
unfoldable pub next_after : ℕ → ℕ → Next
next_after have n = pick (sized n) (pick (ltb have n) next.More (next.Record n)) next.Broken

-- what stands in front of the bytes at hand, from the first byte of a record's length on
unfoldable pub next_of : List ℕ → Next
next_of xs = pick (ltb (length xs) 4) next.More (next_after (length xs - 4) (be 4 xs 0))

-- the figures: rows is the count, holes is span - rows, bytes is the body's length
unfoldable pub figures_of : ℕ → ℕ → ℕ → ℕ → Figures
figures_of tag span rows bytes = record { tag = tag; span = span; rows = rows; holes = span - rows; bytes = bytes }

-- the line of a record of which the validator says a: its one value is the count
unfoldable pub answer_line : ℕ → ℕ → ℕ → Answer → Line
answer_line tag span bytes a = pick (eqb a.number 0) (Listed (figures_of tag span (get_or a.values 0 0) bytes)) Refused

-- the line of a record, from the bytes after its length
unfoldable pub line_of : List ℕ → Line
line_of xs =
    let tag = get_or xs 0 0 in
    let span = be 4 xs 1 in
    let body = drop 5 xs in
    pick (sized (length xs)) (answer_line tag span (length body) (validate_of tag span body)) Broken

-- whether more lines follow
unfoldable pub goes_on : Line → Bool
goes_on (Listed f) = true
goes_on Refused = true
goes_on Broken = false
goes_on Version = false
goes_on End = false
