-- The local bitmap form of a span of s positions: one 16-bit number of rows before for each 256 positions, then the 64-bit words.
-- The words together are one little-endian number, and position i is named where its digit i is set.
-- Assumes nothing.
use Rattle.std.specs.Prelude.{ℕ, ◌+◌, ◌*◌, ◌/◌, ◌^◌, Bool, List, ◌++◌, length, ◌==◌, nat_lt}
use Rattle.fields.specs.Le.{le, digits}
use Rattle.model.specs.Tests.{both, all, flat}
use Rattle.model.specs.Lists.{below, counted}
use Rattle.search.specs.Search.{entry}
use Rattle.word.specs.Bits.{bits_from, num_from}

-- ---- sizes

abbrev pub words_of : ℕ → ℕ
words_of s = (s + 63) / 64

abbrev pub groups_of : ℕ → ℕ
groups_of s = (words_of s + 3) / 4

abbrev pub bitmap_length : ℕ → ℕ
bitmap_length s = 2 * groups_of s + 8 * words_of s

-- ---- bytes to rows

-- the words as one number, and the word of index i
abbrev pub number : List ℕ → ℕ → ℕ
number xs s = le (8 * words_of s) xs (2 * groups_of s)

abbrev pub word_of : List ℕ → ℕ → ℕ → ℕ
word_of xs s i = le 8 xs (2 * groups_of s + 8 * i)

-- the rows before group g, as the body states them
abbrev pub stated : List ℕ → ℕ → ℕ
stated xs g = entry 2 xs 0 2 g

-- the rows below position p, as the words have them
abbrev pub before : List ℕ → ℕ → ℕ → ℕ
before xs s p = length (bits_from p 0 (number xs s))

abbrev pub bitmap_names : List ℕ → ℕ → List ℕ
bitmap_names xs s = bits_from (64 * words_of s) 0 (number xs s)

-- ---- which bytes are accepted

-- group g states the rows before it
unfoldable pub exact : List ℕ → ℕ → ℕ → Bool
exact xs s g = stated xs g == before xs s (256 * g)

-- exact length, a count as every form asks it, bits past the span zero, rows before exact, the stated count the true one
unfoldable pub bitmap_accepts : List ℕ → ℕ → ℕ → Bool
bitmap_accepts xs s n =
    both (length xs == bitmap_length s)
    (both (counted s n) (both (nat_lt (number xs s) (2 ^ s)) (both (all (exact xs s) (groups_of s)) (length (bitmap_names xs s) == n))))

-- ---- rows to bytes

unfoldable pub bitmap_layout : ℕ → List ℕ → List ℕ
bitmap_layout s rows = flat (λ (g : ℕ). digits 2 (below rows (256 * g))) (groups_of s) ++ digits (8 * words_of s) (num_from 0 rows)
