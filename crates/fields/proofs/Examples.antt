-- The definitions on written-out bytes: document 01's numbers.
-- Assumes nothing.
use mathlib.Core.Path.{◌≡◌, refl}
use mathlib.Core.List.{[], ◌∷◌}
use Rattle.fields.specs.Le.{le, digits, put}

-- row 65536 as a 32-bit position: 00 00 01 00
row_65536 : (digits 4 65536 ≡ 0 ∷ 0 ∷ 1 ∷ 0 ∷ []) × (le 4 (0 ∷ 0 ∷ 1 ∷ 0 ∷ []) 0 ≡ 65536)
unfolding digits le
row_65536 = (refl, refl)

-- position 100000 at the fifth byte of a segmented body: 0C 00 01 00 A0 86 01 00
segment_start : le 4 (12 ∷ 0 ∷ 1 ∷ 0 ∷ 160 ∷ 134 ∷ 1 ∷ 0 ∷ []) 4 ≡ 100000
unfolding le
segment_start = refl

-- a store leaves what stands around it
stored : put 2 (9 ∷ 9 ∷ 9 ∷ 9 ∷ []) 1 1101 ≡ 9 ∷ 77 ∷ 4 ∷ 9 ∷ []
unfolding put digits
stored = refl
