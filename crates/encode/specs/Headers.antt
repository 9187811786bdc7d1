-- What stands before the local layout in a whole body, and an entry of the directory, in bytes: document 01, "Bodies by tag".
-- Assumes nothing.
use Rattle.std.specs.Prelude.{List, [], ◌++◌, ℕ, ltb}
use Rattle.fields.specs.Le.{digits}
use Rattle.model.specs.Tests.{pick}
use Rattle.directory.specs.declared.Segment.{Segment}

-- over the whole span: tags 4 to 7 have the count, then the number of runs or a zero
unfoldable pub plain_header : ℕ → ℕ → ℕ → List ℕ
plain_header tag n runs = pick (ltb tag 4) [] (pick (ltb 7 tag) [] (digits 2 n ++ digits 2 (pick (ltb tag 6) runs 0)))

-- from the first row to the last: the count, the flag 1 and a zero, base and local span; or base, local span and count
unfoldable pub bitmap_header : ℕ → ℕ → ℕ → List ℕ
bitmap_header first extent n = digits 2 n ++ digits 2 1 ++ digits 4 first ++ digits 4 extent

unfoldable pub missing_header : ℕ → ℕ → ℕ → List ℕ
missing_header first extent n = digits 4 first ++ digits 2 extent ++ digits 2 n

-- an entry: its last field of two bytes is the tag and a zero byte
unfoldable pub entry_bytes : Segment → List ℕ
entry_bytes e =
    digits 4 e.start
    ++ (digits 2 e.span ++ (digits 2 e.count ++ (digits 2 e.ordinal ++ (digits 2 e.offset ++ (digits 2 e.length ++ digits 2 e.tag)))))
