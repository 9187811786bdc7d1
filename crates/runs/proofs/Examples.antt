-- Bodies of document 01, computed: without the header of a whole body, which a local form has not.
-- Assumes nothing.
use Rattle.std.proofs.Common.{◌≡◌, ℕ, true, false, List, [], ◌∷◌, ◌++◌, refl}
use Rattle.fields.specs.Le.{le, digits}
use Rattle.model.specs.Tests.{both, pick, all, flat, total}
use Rattle.model.specs.Lists.{counted, range, runs_of, onto, moved}
use Rattle.search.specs.Search.{entry, bsearch, find, up_to, allowed}
use Rattle.runs.specs.Runs.{run_count, runs_names, least, fits, run_fits, most_of, runs_stand, runs_accepts, runs_bytes, runs_layout}
use Rattle.runs.specs.Asked.{entry_of, starts_to, before_to, last_of, place_in, runs_place, nth_of, runs_select, runs_from, runs_rest, runs_walk}

-- [0,200), 10 to 19 and 100 to 109
abbrev two : List ℕ
two = 10 ∷ 0 ∷ 10 ∷ 0 ∷ 0 ∷ 0 ∷ 100 ∷ 0 ∷ 10 ∷ 0 ∷ 10 ∷ 0 ∷ []

abbrev rows : List ℕ
rows = range 10 10 ++ range 100 10

two_layout : runs_layout 2 rows ≡ two
unfolding digits pick range runs_of onto runs_bytes runs_layout
two_layout = refl

two_accepted : runs_accepts 2 two 200 20 ≡ true
unfolding le both all counted entry run_count total least fits run_fits most_of runs_stand runs_accepts
two_accepted = refl

two_names : runs_names 2 two 2 ≡ rows
unfolding le entry flat range runs_names
two_names = refl

-- 105 is the ordinal 15, and 50 is none: 10 rows stand below it
two_place : runs_place 2 two 2 105 ≡ record { below = 15; present = true }
unfolding le entry bsearch find up_to allowed entry_of starts_to last_of place_in runs_place
two_place = refl

two_absent : runs_place 2 two 2 50 ≡ record { below = 10; present = false }
unfolding le entry bsearch find up_to allowed entry_of starts_to last_of place_in runs_place
two_absent = refl

two_select : runs_select 2 two 2 15 ≡ 105
unfolding le entry bsearch find up_to allowed entry_of before_to last_of nth_of runs_select
two_select = refl

-- a walk passes from one run to the next
two_walk : runs_walk 2 two 2 8 1000 4 ≡ 1018 ∷ 1019 ∷ 1100 ∷ 1101 ∷ []
unfolding le entry bsearch find up_to allowed range moved before_to last_of runs_from runs_rest runs_walk
two_walk = refl

-- the same rows with 4-byte starts
wide_layout : runs_layout 4 rows ≡ 10 ∷ 0 ∷ 0 ∷ 0 ∷ 10 ∷ 0 ∷ 0 ∷ 0 ∷ 100 ∷ 0 ∷ 0 ∷ 0 ∷ 10 ∷ 0 ∷ 10 ∷ 0 ∷ []
unfolding digits pick range runs_of onto runs_bytes runs_layout
wide_layout = refl

-- [0,10): runs that touch are refused; with the second start 3 they are accepted
touching : runs_accepts 2 (0 ∷ 0 ∷ 2 ∷ 0 ∷ 0 ∷ 0 ∷ 2 ∷ 0 ∷ 2 ∷ 0 ∷ 2 ∷ 0 ∷ []) 10 4 ≡ false
unfolding le both all counted entry run_count total least fits run_fits most_of runs_stand runs_accepts
touching = refl

apart : runs_accepts 2 (0 ∷ 0 ∷ 2 ∷ 0 ∷ 0 ∷ 0 ∷ 3 ∷ 0 ∷ 2 ∷ 0 ∷ 2 ∷ 0 ∷ []) 10 4 ≡ true
unfolding le both all counted entry run_count total least fits run_fits most_of runs_stand runs_accepts
apart = refl

-- a run may end at 65,536, and not after
last_position : runs_accepts 2 (255 ∷ 255 ∷ 1 ∷ 0 ∷ 0 ∷ 0 ∷ []) 65536 1 ≡ true
unfolding le both all counted entry run_count total least fits run_fits most_of runs_stand runs_accepts
last_position = refl

past_the_last : runs_accepts 2 (255 ∷ 255 ∷ 2 ∷ 0 ∷ 0 ∷ 0 ∷ []) 65540 2 ≡ false
unfolding le both all counted entry run_count total least fits run_fits most_of runs_stand runs_accepts
past_the_last = refl
