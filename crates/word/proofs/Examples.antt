-- Words written out, and what they name, computed.
-- Assumes nothing.
use mathlib.Core.Path.{◌≡◌, refl}
use mathlib.Core.Bool.{true, false}
use mathlib.Core.List.{[], ◌∷◌}
use lib.ListN.{length, get_or}
use Rattle.model.specs.Tests.{pick}
use Rattle.model.specs.Lists.{below, has}
use Rattle.word.specs.Bits.{named, bits_from, bits_of, num_from}

-- the lowest, some in between, and the highest place
spread_word : bits_of 0x8000000100000205 ≡ 0 ∷ 2 ∷ 9 ∷ 32 ∷ 63 ∷ []
unfolding bits_from named
spread_word = refl

spread_back : num_from 0 (0 ∷ 2 ∷ 9 ∷ 32 ∷ 63 ∷ []) ≡ 0x8000000100000205
unfolding num_from
spread_back = refl

-- every second place of a word: 32 of them, and number 31 is at 62
evens : length (bits_of 0x5555555555555555) ≡ 32
unfolding bits_from named
evens = refl

evens_last : get_or (bits_of 0x5555555555555555) 31 0 ≡ 62
unfolding bits_from named
evens_last = refl

-- 9 is a place, and 10 is none; two stand below 9, and three below 10
nine : has (bits_of 0x8000000100000205) 9 ≡ true
unfolding bits_from named has pick
nine = refl

ten : has (bits_of 0x8000000100000205) 10 ≡ false
unfolding bits_from named has pick
ten = refl

ten_below : below (bits_of 0x8000000100000205) 10 ≡ 3
unfolding bits_from named below pick
ten_below = refl
