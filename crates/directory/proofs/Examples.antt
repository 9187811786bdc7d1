-- Document 01's directory on written-out bytes: twelve rows in [0,200000), 100000 + 100i, one segment of tag 3.
-- Assumes nothing.
use mathlib.Core.Path.{◌≡◌, refl}
use mathlib.Core.Bool.{true, false}
use mathlib.Core.List.{List, [], ◌∷◌, ◌++◌}
use Prim.Native.Nat.{ℕ, ◌+◌, ◌*◌}
use Rattle.fields.specs.Le.{le, digits}
use Rattle.model.specs.Tests.{both, pick, all, flat, tabulate, total}
use Rattle.model.specs.Lists.{counted, shift}
use Rattle.search.specs.Search.{entry, find, bsearch, up_to, allowed}
use Rattle.directory.specs.Directory.{stated_count, stated_segments, starts_to, ordinals_to, entry_of, zero_at, part_of, end_before, is_local, fits, segment_fits, segments_fit, directory_accepts, piece_of, names_of}
use Rattle.directory.specs.Layout.{entry_layout, directory_layout}

header : List ℕ
header = 12 ∷ 0 ∷ 1 ∷ 0 ∷ 160 ∷ 134 ∷ 1 ∷ 0 ∷ 77 ∷ 4 ∷ 12 ∷ 0 ∷ 0 ∷ 0 ∷ 20 ∷ 0 ∷ 24 ∷ 0 ∷ 3 ∷ 0 ∷ []

-- the positions 0, 100, .., 1100 of two bytes each
payload : List ℕ
payload = flat (λ (i : ℕ). digits 2 (100 * i)) 12

body : List ℕ
body = header ++ payload

read_back : (stated_count body ≡ 12) × (stated_segments body ≡ 1) × (entry_of body 0 ≡ record { start = 100000; span = 1101; count = 12; ordinal = 0; offset = 20; length = 24; tag = 3 }) × (zero_at body 0 ≡ 0)
unfolding body header payload flat digits entry_of entry le
read_back = (refl, refl, refl, refl)

part : part_of body 0 ≡ payload
unfolding body header payload flat digits part_of entry le
part = refl

taken : directory_accepts body 200000 ≡ true
unfolding body header payload flat digits directory_accepts segments_fit segment_fits fits is_local counted entry_of end_before total entry le both pick all
taken = refl

-- a span that the segment passes by one, a body with a byte more, and a tag that is no local form's
refused : (directory_accepts body 101100 ≡ false) × (directory_accepts (body ++ (0 ∷ [])) 200000 ≡ false) × (is_local 2 ≡ false)
unfolding body header payload flat digits directory_accepts segments_fit segment_fits fits is_local counted entry_of end_before total entry le both pick all
refused = (refl, refl, refl)

named : names_of body (λ (_ : ℕ). tabulate (λ (i : ℕ). 100 * i) 12) ≡ tabulate (λ (i : ℕ). 100000 + 100 * i) 12
unfolding body header payload flat digits names_of piece_of shift tabulate entry le
named = refl

-- the writer's bytes are these
laid_out : directory_layout (record { start = λ (_ : ℕ). 100000; span = λ (_ : ℕ). 1101; count = λ (_ : ℕ). 12; size = λ (_ : ℕ). 24; tag = λ (_ : ℕ). 3 }) 1 ≡ header
unfolding directory_layout entry_layout header flat digits total
laid_out = refl

-- position 99999 is before the segment, 100000 in it; ordinal 11 is in it
searched : (starts_to body 1 99999 ≡ 0) × (starts_to body 1 100000 ≡ 1) × (ordinals_to body 1 11 ≡ 1)
unfolding body header payload flat digits find bsearch up_to allowed entry le
searched = (refl, refl, refl)
