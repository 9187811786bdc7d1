-- What the public calls answer, in document 01's numbers and values, and what they leave in a lent slice.
-- Assumes nothing.
use Rattle.std.specs.Prelude.{List, [], ◌∷◌, ℕ, eqb, leb, ltb, length, Option, Some, None, Result}
use Rattle.std.specs.Option.{option_to_list}
use Rattle.model.specs.Tests.{pick}
use Rattle.model.specs.Lists.{rank_of, select_of, walk_of}
use Rattle.model.specs.declared.Place.{Place}
use Rattle.model.specs.Answers.{Answer, accepted, refused, over, ranks_of}
use Rattle.model.specs.Refusals.{answer_of}
use Rattle.model.specs.declared.refusal.Refusal.{Refusal}
use Rattle.directory.specs.Directory.{stated_segments, entry_of}
use Rattle.directory.specs.declared.Segment.{Segment}
use Rattle.bodies.specs.Bodies.{accepts, names}

-- ---- the number and the values of each answer

unfoldable pub checked_of : Result ℕ Refusal → Answer
checked_of result = answer_of (λ n. n ∷ []) result

unfoldable pub ranked_of : Result (Option ℕ) Refusal → Answer
ranked_of result = answer_of option_to_list result

unfoldable pub selected_of : Result (Option ℕ) Refusal → Answer
selected_of result = answer_of option_to_list result

unfoldable pub filled_of : Result ℕ Refusal → Answer
filled_of result = answer_of (λ n. n ∷ []) result

unfoldable pub values_of : Segment → List ℕ
values_of s = s.start ∷ s.span ∷ s.count ∷ s.ordinal ∷ s.offset ∷ s.length ∷ s.tag ∷ []

-- of an entry, or none
unfoldable pub entry_values : Option Segment → List ℕ
entry_values (Some s) = values_of s
entry_values None = []

unfoldable pub entry_answer : Result (Option Segment) Refusal → Answer
entry_answer result = answer_of entry_values result

-- ---- what each call answers: a body that is not accepted is refused by number 8

-- an answer for an accepted body
unfoldable pub asked : ℕ → ℕ → List ℕ → Answer → Answer
asked tag span xs a = pick (accepts tag span xs) a (refused 8)

unfoldable pub validate_of : ℕ → ℕ → List ℕ → Answer
validate_of tag span xs = asked tag span xs (accepted (length (names tag span xs) ∷ []))

unfoldable pub rank_answer : ℕ → ℕ → List ℕ → ℕ → Answer
rank_answer tag span xs p = asked tag span xs (accepted (rank_of (names tag span xs) p))

unfoldable pub select_answer : ℕ → ℕ → List ℕ → ℕ → Answer
select_answer tag span xs k = asked tag span xs (accepted (select_of (names tag span xs) k))

-- the same from a place: the ordinal where the position is a row
unfoldable pub row_of : Place → List ℕ
row_of q = pick q.present (q.below ∷ []) []

-- many ranks: 8, then 7 where the output is shorter than the queries
unfoldable pub ranks_answer : ℕ → ℕ → List ℕ → List ℕ → ℕ → Answer
ranks_answer tag span xs ps room = asked tag span xs (pick (leb (length ps) room) (accepted (length ps ∷ [])) (refused 7))

unfoldable pub ranks_left : ℕ → ℕ → List ℕ → List ℕ → List ℕ → List ℕ
ranks_left tag span xs ps old = pick (accepts tag span xs) (pick (leb (length ps) (length old)) (over (ranks_of (names tag span xs) ps) old) old) old

unfoldable pub walk_answer : ℕ → ℕ → List ℕ → ℕ → ℕ → Answer
walk_answer tag span xs k room = asked tag span xs (accepted (length (walk_of (names tag span xs) k room) ∷ []))

unfoldable pub walk_left : ℕ → ℕ → List ℕ → ℕ → List ℕ → List ℕ
walk_left tag span xs k old = pick (accepts tag span xs) (over (walk_of (names tag span xs) k (length old)) old) old

-- the i-th directory entry: nothing for another tag or past the end
unfoldable pub segment_answer : ℕ → ℕ → List ℕ → ℕ → Answer
segment_answer tag span xs i =
    asked tag span xs (accepted (pick (eqb tag 9) (pick (ltb i (stated_segments xs)) (values_of (entry_of xs i)) []) []))
