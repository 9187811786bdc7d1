-- What the readers of a bitmap answer on any bytes of the right length. A law says what that is of the list where the body is accepted.
-- Assumes nothing.
use Rattle.std.specs.Prelude.{◌≡◌, ℕ, ◌+◌, ◌-◌, ◌*◌, ◌/◌, ◌^◌, ◌<◌, ◌≤◌, false, List, [], ◌++◌, length, take, drop, nat_lt, slice_index, ◌≢◌, Option, MatchOption}
use Rattle.model.specs.Tests.{pick}
use Rattle.model.specs.Lists.{has, moved}
use Rattle.model.specs.declared.Place.{Place}
use Rattle.search.specs.Search.{find, up_to}
use Rattle.word.specs.Bits.{bits_from, bits_of}
use Rattle.bitmap.specs.Body.{words_of, groups_of, number, word_of, stated, before, bitmap_names}
use Rattle.bitmap.specs.declared.Spot.{Spot}
use Rattle.bitmap.specs.declared.Cursor.{Cursor}

-- ---- place: the rows that the position's group states, and those of the group below it

abbrev pub bitmap_below : List ℕ → ℕ → ℕ → ℕ
bitmap_below xs s p = stated xs (p / 256) + (before xs s p - before xs s (256 * (p / 256)))

unfoldable pub bitmap_place : List ℕ → ℕ → ℕ → ℕ → Place
bitmap_place xs s n p = pick (nat_lt p s) (record { below = bitmap_below xs s p; present = has (bitmap_names xs s) p }) (record { below = n; present = false })

-- ---- select and walk

-- the rows at p or after
abbrev pub from : List ℕ → ℕ → ℕ → List ℕ
from xs s p = bits_from (64 * words_of s - p) p (number xs s / 2 ^ p)

-- the rows of group g
abbrev pub group_rows : List ℕ → ℕ → ℕ → List ℕ
group_rows xs s g = bits_from 256 (256 * g) (number xs s / 2 ^ (256 * g))

-- the last group that states at most k rows before it, and k counted from what it states
abbrev pub group_for : List ℕ → ℕ → ℕ → ℕ
group_for xs s k = find (up_to false (stated xs) k) 0 (groups_of s) - 1

abbrev pub in_group : List ℕ → ℕ → ℕ → ℕ
in_group xs s k = k - stated xs (group_for xs s k)

-- the rows from ordinal k on: none, where the group has no such row
unfoldable pub bitmap_rest : List ℕ → ℕ → ℕ → List ℕ
bitmap_rest xs s k =
    pick (nat_lt (in_group xs s k) (length (group_rows xs s (group_for xs s k)))) (drop (in_group xs s k) (from xs s (256 * group_for xs s k))) []

abbrev pub bitmap_select : List ℕ → ℕ → ℕ → ℕ
bitmap_select xs s k = slice_index (bitmap_rest xs s k) 0

-- counted from base: as many as fit or remain
abbrev pub bitmap_walk : List ℕ → ℕ → ℕ → ℕ → ℕ → List ℕ
bitmap_walk xs s k base n = moved base (take n (bitmap_rest xs s k))

-- ---- inside

-- how many rows the words from i up to j have
pub record Between (xs : List ℕ) (s i j n : ℕ) : Type 0 where
  pub sum : before xs s (64 * i) + n ≡ before xs s (64 * j)
  pub most : n ≤ 64 * (j - i)

-- the rows from ordinal k on are those of a word from its row `left` on, and of the words after it
pub record Standing (xs : List ℕ) (s k : ℕ) (r : Spot) : Type 0 where
  pub inside : r.index < words_of s
  pub row : r.left < length (bits_of (word_of xs s r.index))
  pub rest : bitmap_rest xs s k ≡ drop r.left (from xs s (64 * r.index))

-- such a spot, and none where there are no such rows
abbrev pub Spotted : List ℕ → ℕ → ℕ → Option Spot → Type 0
Spotted xs s k r = MatchOption r (bitmap_rest xs s k ≡ []) (Standing xs s k)

-- the rows from word i on, of which w is what is left
abbrev pub rest_of : List ℕ → ℕ → ℕ → ℕ → List ℕ
rest_of xs s i w = bits_from 64 (64 * i) w ++ from xs s (64 * (i + 1))

-- the same rows are left, and the word at hand has the first of them
pub record Left (xs : List ℕ) (s i w : ℕ) (c : Cursor) : Type 0 where
  pub inside : c.index < words_of s
  pub some : c.word ≢ 0
  pub same : rest_of xs s c.index c.word ≡ rest_of xs s i w

-- such a word, and none where no rows are left
abbrev pub Settled : List ℕ → ℕ → ℕ → ℕ → Option Cursor → Type 0
Settled xs s i w r = MatchOption r (rest_of xs s i w ≡ []) (Left xs s i w)
