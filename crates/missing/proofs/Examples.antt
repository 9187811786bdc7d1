-- Document 01's example of the form missing, computed: [0, 10), all but 4, the local part 04 00.
-- Assumes nothing.
use mathlib.Core.Path.{◌≡◌, refl}
use mathlib.Core.Bool.{true, false}
use mathlib.Core.List.{List, [], ◌∷◌}
use Prim.Native.Nat.{ℕ}
use Rattle.fields.specs.Le.{le, digits}
use Rattle.model.specs.Tests.{both, pick, all, tabulate}
use Rattle.model.specs.Lists.{counted, range, complement}
use Rattle.search.specs.Search.{entry, find, bsearch, up_to, allowed}
use Rattle.lists.specs.Lists.{list_layout, climbs, rises_below, list_names, place_at, list_place}
use Rattle.missing.specs.Missing.{missing_layout, missing_accepts, missing_names, besides, missing_place, holes_before, missing_select, missing_from}

abbrev body : List ℕ
body = 4 ∷ 0 ∷ []

abbrev rows : List ℕ
rows = 0 ∷ 1 ∷ 2 ∷ 3 ∷ 5 ∷ 6 ∷ 7 ∷ 8 ∷ 9 ∷ []

laid : missing_layout 10 rows ≡ body
unfolding missing_layout complement range list_layout digits
laid = refl

taken : missing_accepts body 10 9 ≡ true
unfolding missing_accepts counted rises_below climbs all both entry le
taken = refl

named : missing_names body 10 1 ≡ rows
unfolding missing_names complement range list_names tabulate entry le
named = refl

hole : missing_place body 10 1 4 ≡ record { below = 4; present = false }
unfolding missing_place besides list_place place_at find bsearch up_to allowed entry le pick
hole = refl

row : missing_place body 10 1 7 ≡ record { below = 6; present = true }
unfolding missing_place besides list_place place_at find bsearch up_to allowed entry le pick
row = refl

fifth : missing_select body 1 4 ≡ 5
unfolding missing_select holes_before find bsearch up_to allowed entry le
fifth = refl

later : missing_from body 10 1 3 ≡ 3 ∷ 5 ∷ 6 ∷ 7 ∷ 8 ∷ 9 ∷ []
unfolding missing_from missing_select holes_before find bsearch up_to allowed complement range list_names tabulate entry le
later = refl

-- a hole at the span, and a span that is too wide
at_span : missing_accepts (10 ∷ 0 ∷ []) 10 9 ≡ false
unfolding missing_accepts counted rises_below climbs all both entry le
at_span = refl

too_wide : missing_accepts body 65536 65535 ≡ false
unfolding missing_accepts counted rises_below climbs all both entry le
too_wide = refl
