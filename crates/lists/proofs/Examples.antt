-- Document 01's examples of the forms dense and list, computed.
-- Assumes nothing.
use Rattle.std.proofs.Common.{◌≡◌, ℕ, true, false, List, [], ◌∷◌, refl}
use Rattle.fields.specs.Le.{le, digits}
use Rattle.model.specs.Tests.{both, pick, all, tabulate}
use Rattle.model.specs.Lists.{counted, range}
use Rattle.search.specs.Search.{entry, find, bsearch, up_to, allowed}
use Rattle.lists.specs.Lists.{dense_accepts, dense_names, list_layout, climbs, rises_below, list_accepts, list_names, place_at, list_place}

-- [0, 10), 3 4 5: 03 00 04 00 05 00
abbrev body : List ℕ
body = 3 ∷ 0 ∷ 4 ∷ 0 ∷ 5 ∷ 0 ∷ []

laid : list_layout 2 (3 ∷ 4 ∷ 5 ∷ []) ≡ body
unfolding list_layout digits
laid = refl

taken : list_accepts 2 body 10 3 ≡ true
unfolding list_accepts counted rises_below climbs all both entry le
taken = refl

named : list_names 2 body 3 ≡ 3 ∷ 4 ∷ 5 ∷ []
unfolding list_names tabulate entry le
named = refl

here : list_place 2 body 3 4 ≡ record { below = 1; present = true }
unfolding list_place place_at find bsearch up_to allowed entry le pick
here = refl

past : list_place 2 body 3 7 ≡ record { below = 3; present = false }
unfolding list_place place_at find bsearch up_to allowed entry le pick
past = refl

-- the last item equal to the span, an item twice, a count of 0, another length
at_span : list_accepts 2 body 5 3 ≡ false
unfolding list_accepts counted rises_below climbs all both entry le
at_span = refl

twice : list_accepts 2 (3 ∷ 0 ∷ 3 ∷ 0 ∷ []) 10 2 ≡ false
unfolding list_accepts counted rises_below climbs all both entry le
twice = refl

nothing : list_accepts 2 [] 10 0 ≡ false
unfolding list_accepts counted rises_below climbs all both entry le
nothing = refl

shorter : list_accepts 2 body 10 2 ≡ false
unfolding list_accepts counted rises_below climbs all both entry le
shorter = refl

-- [0, 65537), row 65535: FF FF at two bytes; row 65536: 00 00 01 00 at four
narrow : list_names 2 (0xff ∷ 0xff ∷ []) 1 ≡ 65535 ∷ []
unfolding list_names tabulate entry le
narrow = refl

wide : list_names 4 (0 ∷ 0 ∷ 1 ∷ 0 ∷ []) 1 ≡ 65536 ∷ []
unfolding list_names tabulate entry le
wide = refl

wide_taken : list_accepts 4 (0 ∷ 0 ∷ 1 ∷ 0 ∷ []) 65537 1 ≡ true
unfolding list_accepts counted rises_below climbs all both entry le
wide_taken = refl

-- [100, 105), all rows: no bytes. Span 65536 is refused
dense : dense_accepts [] 5 5 ≡ true
unfolding dense_accepts counted both
dense = refl

dense_named : dense_names 5 ≡ 0 ∷ 1 ∷ 2 ∷ 3 ∷ 4 ∷ []
unfolding range
dense_named = refl

dense_large : dense_accepts [] 65536 65536 ≡ false
unfolding dense_accepts counted both
dense_large = refl
