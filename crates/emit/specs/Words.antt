-- A bitmap's words one after the other: the rows of each, and the rows before each fourth word.
-- Assumes nothing.
use Rattle.std.specs.Prelude.{◌≡◌, false, List, ℕ, ◌+◌, ◌-◌, ◌*◌, ◌/◌, ◌%◌, ◌^◌, ◌<◌, ◌≤◌, eqb, length, get_or, take}
use Rattle.std.specs.Int.Bits.{bit_or}
use Rattle.fields.specs.Le.{put}
use Rattle.model.specs.Lists.{range}
use Rattle.model.specs.Tests.{pick}
use Rattle.word.specs.Bits.{num_from}
use Rattle.emit.specs.declared.Outlook.{Outlook}
use Rattle.emit.specs.declared.Word.{Word}

-- bits with the digit of a position set
abbrev pub with_digit : ℕ → ℕ → ℕ
with_digit bits position = bit_or bits (2 ^ (position % 64))

-- a word with the digits of n positions from the given one on, and the index behind their rows
abbrev pub with_run : Word → ℕ → ℕ → Word
with_run word position n = record { bits = bit_or word.bits (num_from 0 (range (position % 64) n)); next = word.next + n }

-- xs with the rows before the word k stored for its group, where the word begins one; the numbers of groups stand from at on
unfoldable pub counted_at : List ℕ → ℕ → ℕ → ℕ → List ℕ
counted_at xs at k rows = pick (eqb (k % 4) 0) (put 2 xs (at + 2 * (k / 4)) rows) xs

-- the positions before index i stand in the words before k, and all others do not
pub record Cut (xs : List ℕ) (k i : ℕ) : Type 0 where
  pub upto : i ≤ length xs
  pub under : (m : ℕ) → m < i → get_or xs m 0 < 64 * k
  pub over : (m : ℕ) → i ≤ m → m < length xs → 64 * k ≤ get_or xs m 0
  pub low : num_from 0 (take i xs) < 2 ^ (64 * k)

-- the digits of the word k, of positions from index i on
pub record Worded (xs : List ℕ) (k i : ℕ) (r : Word) : Type 0 where
  pub cut : Cut xs (k + 1) r.next
  pub so : num_from 0 (take r.next xs) ≡ r.bits * 2 ^ (64 * k) + num_from 0 (take i xs)

-- on the way through the positions of the word k, from index i on: the digits of those before the next are set
pub record Wording (xs : List ℕ) (k i : ℕ) (w : Word) : Type 0 where
  pub begun : i ≤ w.next
  pub upto : w.next ≤ length xs
  pub under : (m : ℕ) → m < w.next → get_or xs m 0 < 64 * (k + 1)
  pub small : w.bits < 2 ^ 64
  pub so : num_from 0 (take w.next xs) ≡ w.bits * 2 ^ (64 * k) + num_from 0 (take i xs)

-- on the way through the word k from w to r, to no index behind stop: r has more of its rows, and those before upto if they are its
pub record Onward (xs : List ℕ) (k upto stop : ℕ) (w r : Word) : Type 0 where
  pub kept : (i : ℕ) → Cut xs k i → Wording xs k i w → Wording xs k i r
  pub within : r.next ≤ stop
  pub out : r.next < upto → eqb (get_or xs r.next 0 / 64) k ≡ false

-- ---- rows that stand one behind the other

-- rows that rise: two of them are at least as far apart as their places are. Indices are far from the largest number
pub record Spaced (rows : List ℕ) : Type 0 where
  pub apart : (i j : ℕ) → i ≤ j → j < length rows → get_or rows i 0 + (j - i) ≤ get_or rows j 0
  pub few : length rows ≤ 4294967295

-- two rows that are as far apart as their places are: so are all between, as they are spaced
pub record Unbroken (rows : List ℕ) (first last : ℕ) : Type 0 where
  pub order : first ≤ last
  pub inside : last < length rows
  pub so : get_or rows last 0 ≡ get_or rows first 0 + (last - first)

-- what is known of the rows ahead is so
pub record Sight (rows : List ℕ) (a : Outlook) : Type 0 where
  pub order : a.start ≤ a.stop
  pub inside : a.stop ≤ length rows
  pub run : a.start < a.stop → Unbroken rows a.start (a.stop - 1)
