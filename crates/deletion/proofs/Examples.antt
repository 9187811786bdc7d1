-- The definitions on small sections: document 01's list 3 4 5 in a block of ten rows, and the order of the tests.
-- Assumes nothing.
use mathlib.Core.Path.{◌≡◌, refl}
use mathlib.Core.List.{List, [], ◌∷◌}
use Prim.Native.Nat.{ℕ}
use Rattle.fields.specs.Le.{le}
use Rattle.model.specs.Tests.{both, pick, all, tabulate}
use Rattle.model.specs.Lists.{counted, has, shift}
use Rattle.model.specs.Answers.{accepted, refused, over}
use Rattle.search.specs.Search.{entry}
use Rattle.lists.specs.Lists.{list_accepts, list_names, rises_below, climbs}
use Rattle.forms.specs.Forms.{by_tag, local_accepts, local_names}
use Rattle.single.specs.Single.{fit, view_of, named_in, single_names}
use Rattle.bodies.specs.Bodies.{accepts, names}
use Rattle.bodies.specs.Accepted.{list_body}
use Rattle.planning.specs.Planning.{answered}
use Rattle.deletion.specs.Reading.{body_limit, block_fits, stated_fit, coded_number, section_number, deleted_of, check_answer, contains_answer, walk_left}
use Rattle.deletion.specs.Striking.{no_deletions, strikes, strike_of, strike_work}
use Rattle.std.specs.Prelude.{Option, Some, None}
use Rattle.deletion.specs.declared.Coded.{Coded}

abbrev list : List ℕ
list = 3 ∷ 0 ∷ 4 ∷ 0 ∷ 5 ∷ 0 ∷ []

abbrev coded : ℕ → ℕ → Option Coded
coded count tag = Some (record { count = count; tag = tag })

abbrev check : ℕ → ℕ → ℕ → ℕ → ℕ
check rows limit count tag = (check_answer rows limit (coded count tag) list).number

-- 4 is the second deletion and is contained; 1, its rank, is not; a walk from the second writes ordinals
asked : (check_answer 10 100 (coded 3 3) list ≡ accepted (3 ∷ [])) × (contains_answer 10 100 (coded 3 3) list 4 ≡ accepted (1 ∷ []))
    × (contains_answer 10 100 (coded 3 3) list 1 ≡ accepted (0 ∷ [])) × (walk_left 10 100 (coded 3 3) list 1 (9 ∷ 9 ∷ 9 ∷ []) ≡ 4 ∷ 5 ∷ 9 ∷ [])
unfolding check_answer contains_answer walk_left answered section_number coded_number block_fits stated_fit body_limit deleted_of has over accepts list_body names single_names view_of named_in local_accepts local_names by_tag counted shift both pick fit list_accepts list_names rises_below climbs all tabulate entry le
asked = (refl, refl, refl, refl)

-- 9 before 8 before 10: no rows, too many rows, no count, a count above the rows; tag 0 with another count; another count alone
refusals : (check 0 100 3 3 ≡ 9) × (check 10 9 3 3 ≡ 9) × (check 10 100 0 3 ≡ 9) × (check 10 100 11 0 ≡ 9) × (check 10 100 2 0 ≡ 8) × (check 10 100 2 3 ≡ 10)
unfolding check_answer answered section_number coded_number block_fits stated_fit body_limit deleted_of accepts list_body names single_names view_of named_in local_accepts local_names by_tag counted shift both pick fit list_accepts list_names rises_below climbs all tabulate entry le
refusals = (refl, refl, refl, refl, refl, refl)

-- no deletions: after test 9 alone the answer is Empty, and the workspace stays
empty : (strike_of 10 100 [] 0 0 ≡ no_deletions) × (strike_work 10 100 [] (7 ∷ []) ≡ 7 ∷ []) × (strike_of 0 100 [] 0 0 ≡ refused 9) × (check_answer 10 100 None list ≡ accepted (0 ∷ []))
unfolding strike_of strike_work strikes check_answer answered section_number block_fits deleted_of both pick
empty = (refl, refl, refl, refl)
