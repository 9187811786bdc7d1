-- Worked bodies, computed: document 01's evens, and what is refused.
-- Assumes nothing.
use Rattle.std.proofs.Common.{◌≡◌, ℕ, ◌*◌, true, false, List, [], ◌∷◌, ◌++◌, take, replicate, refl}
use Rattle.fields.specs.Le.{le, digits}
use Rattle.model.specs.Tests.{both, pick, all, tabulate, flat}
use Rattle.model.specs.Lists.{below, has, counted, moved}
use Rattle.search.specs.Search.{entry, find, bsearch, up_to, allowed}
use Rattle.word.specs.Bits.{named, bits_from, num_from}
use Rattle.bitmap.specs.Body.{bitmap_names, exact, bitmap_accepts, bitmap_layout}
use Rattle.bitmap.specs.Reading.{bitmap_place, bitmap_rest, bitmap_select, bitmap_walk}

-- [0,64), evens: no rows before, then 55 eight times
evens : List ℕ
evens = 0 ∷ 0 ∷ replicate 8 0x55

evens_accepted : bitmap_accepts evens 64 32 ≡ true
unfolding evens bitmap_accepts both counted all exact entry le bits_from named
evens_accepted = refl

evens_laid : bitmap_layout 64 (tabulate (λ (i : ℕ). 2 * i) 32) ≡ evens
unfolding evens bitmap_layout flat below pick tabulate digits num_from
evens_laid = refl

evens_first : take 3 (bitmap_names evens 64) ≡ 0 ∷ 2 ∷ 4 ∷ []
unfolding evens le bits_from named
evens_first = refl

-- a wrong count, and a span that leaves a set digit outside
evens_count : bitmap_accepts evens 64 31 ≡ false
unfolding evens bitmap_accepts both counted all exact entry le bits_from named
evens_count = refl

evens_span : bitmap_accepts evens 62 31 ≡ false
unfolding evens bitmap_accepts both counted all exact entry le bits_from named
evens_span = refl

-- [0,769), 5 and 768: the two groups between hold no row, and all three after the first state one row before
apart : List ℕ
apart = 0 ∷ 0 ∷ 1 ∷ 0 ∷ 1 ∷ 0 ∷ 1 ∷ 0 ∷ (32 ∷ replicate 95 0) ++ (1 ∷ replicate 7 0)

apart_accepted : bitmap_accepts apart 769 2 ≡ true
unfolding apart bitmap_accepts both counted all exact entry le bits_from named
apart_accepted = refl

-- ordinal 1 is in the last of the equal groups
apart_last : bitmap_select apart 769 1 ≡ 768
unfolding apart bitmap_rest pick find bsearch up_to allowed entry le bits_from named
apart_last = refl

apart_place : bitmap_place apart 769 2 700 ≡ record { below = 1; present = false }
unfolding apart bitmap_place pick has entry le bits_from named
apart_place = refl

apart_walk : bitmap_walk apart 769 0 1000 5 ≡ 1005 ∷ 1768 ∷ []
unfolding apart bitmap_rest pick find bsearch up_to allowed entry le bits_from named moved
apart_walk = refl
