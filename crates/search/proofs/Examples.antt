-- The search on written-out tables.
-- Assumes nothing.
use mathlib.Core.Path.{◌≡◌, refl}
use mathlib.Core.Bool.{true, false}
use mathlib.Core.List.{[], ◌∷◌}
use Prim.Native.Nat.{◌*◌}
use Rattle.fields.specs.Le.{le}
use Rattle.search.specs.Search.{bsearch, find, entry, allowed, up_to}

-- 3 4 5 as 16-bit positions: two are at most 4
found : find (up_to false (entry 2 (3 ∷ 0 ∷ 4 ∷ 0 ∷ 5 ∷ 0 ∷ []) 0 2) 4) 0 3 ≡ 2
unfolding find bsearch up_to allowed entry le
found = refl

-- holes 4 and 5: the fourth position that is no hole is 3, the fifth is 6, with two holes before it
gaps_before_5 : find (up_to true (entry 2 (4 ∷ 0 ∷ 5 ∷ 0 ∷ []) 0 2) 4) 0 2 ≡ 2
unfolding find bsearch up_to allowed entry le
gaps_before_5 = refl

-- a long table takes as many turns as the code
long : find (up_to false (λ i. i * 2) 700) 0 65535 ≡ 351
unfolding find bsearch up_to allowed
long = refl
