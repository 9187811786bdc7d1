-- What the binary digits of a number name: the rising list of its set places. Digits are taken lowest first, by `% 2` and `/ 2`.
-- Everything that is said of a word, and of the words of a bitmap taken as one number, is said of this list.
-- Assumes nothing.
use Rattle.std.specs.Prelude.{◌≡◌, List, [], ◌∷◌, ℕ, zero, suc, ◌+◌, ◌-◌, ◌/◌, ◌%◌, ◌^◌, ◌<◌, ◌≤◌, length, get_or}
use Rattle.word.specs.declared.Half.{Half}

-- p in front of rest where the digit d is set
unfoldable pub named : ℕ → ℕ → List ℕ → List ℕ
named zero p rest = rest
named (suc d) p rest = p ∷ rest

-- the places of the set digits among the k lowest of w, rising, counted from p
unfoldable pub bits_from : ℕ → ℕ → ℕ → List ℕ
bits_from zero p w = []
bits_from (suc k) p w = named (w % 2) p (bits_from k (suc p) (w / 2))

-- the set places of a 64-bit word
abbrev pub bits_of : ℕ → List ℕ
bits_of w = bits_from 64 0 w

-- the number whose digit p - a is set for each p of a list that starts at a or after
unfoldable pub num_from : ℕ → List ℕ → ℕ
num_from a [] = 0
num_from a (p ∷ ps) = 2 ^ (p - a) + num_from a ps

-- the place that a part of a word asks for: number k of the set places among the width lowest of word, counted from base
abbrev pub place_in : ℕ → ℕ → ℕ → ℕ → ℕ
place_in word width k base = get_or (bits_from width base word) k 0

-- there is such a place, and the width is what 64 comes to by halving
pub record Wanted (word width k base : ℕ) : Type 0 where
  pub level : ℕ
  pub power : width ≡ 2 ^ level
  pub inside : k < length (bits_from width base word)
  pub fits : base + width ≤ 64

-- r is a half of the part, and asks for the same place
pub record Halved (word width k base : ℕ) (r : Half) : Type 0 where
  pub wanted : Wanted r.word (width / 2) r.k r.base
  pub same : place_in r.word (width / 2) r.k r.base ≡ place_in word width k base
