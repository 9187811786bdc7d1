-- The words in which the demands are stated.
-- Assumes nothing.
use Rattle.std.specs.Prelude.{◌≡◌, Bool, List, [], ◌∷◌, ◌++◌, ℕ, ◌*◌, ◌≤◌, leb, length, get_or, take, drop, replicate}
use Rattle.model.specs.Tests.{both, pick}
use Rattle.model.specs.Lists.{rank_of, select_of, walk_of}
use Rattle.model.specs.Answers.{Answer, accepted, over, ranks_of}
use Rattle.forms.specs.RowSets.{RowSet}
use Rattle.bodies.specs.Bodies.{accepts}
use Rattle.planning.specs.Refusals.{coverage_fits, count_fits, rows_fit, given_fit, room_fits}
use Rattle.planning.specs.Planning.{planned_form}
use Rattle.rowset.specs.Calls.{validate_of, rank_answer, ranks_answer, ranks_left, select_answer, walk_answer, walk_left}

-- a contract leaves nothing open: two results that meet it are equal. A result is what is answered and what is left in each lent place
abbrev pub Once : {R : Type 0} → (R → Type 0) → Type 0
Once {R} says = (a b : R) → says a → says b → a ≡ b

-- the number of the first test that does not pass, or 0 where all pass
unfoldable pub first_due : List (Bool × ℕ) → ℕ
first_due [] = 0
first_due (t ∷ ts) = pick t.0 (first_due ts) t.1

-- the numbers beside the tests
unfoldable pub numbers_of : List (Bool × ℕ) → List ℕ
numbers_of [] = []
numbers_of (t ∷ ts) = t.1 ∷ numbers_of ts

-- the test of every reading call
abbrev pub taken : ℕ → ℕ → List ℕ → Bool × ℕ
taken tag span body = (accepts tag span body, 8)

-- the tests of planning; those of 6 and 7 are of the bytes of the chosen body
abbrev pub plan_tests : ℕ → ℕ → List ℕ → List ℕ → ℕ → ℕ → ℕ → List (Bool × ℕ)
plan_tests start end rows seeds limit words room =
    let bytes = (planned_form start end rows seeds).bytes in
    (coverage_fits start end, 1) ∷ (count_fits rows, 2) ∷ (rows_fit start end rows, 3) ∷ (given_fit rows seeds, 4) ∷ (room_fits rows seeds words, 5)
    ∷ (both (leb bytes limit) (leb bytes 65535), 6) ∷ (leb bytes room, 7) ∷ []

-- what an answer leaves of a lent slice: a refusal changes nothing, and what lies beyond the n elements that the answer counts stays
abbrev pub Kept : {A : Type 0} → ℕ → Answer → List A → List A → Type 0
Kept n w old left = ((w.number ≡ 0 → ⊥) → left ≡ old) × (drop n left ≡ drop n old)

-- how many elements an answer says were written
abbrev pub written : Answer → ℕ
written w = get_or w.values 0 0

-- the values of a plan: tag, body length, segments after merging, offers
abbrev pub tag_in : Answer → ℕ
tag_in a = get_or a.values 0 0

abbrev pub bytes_in : Answer → ℕ
bytes_in a = get_or a.values 1 0

abbrev pub segments_in : Answer → ℕ
segments_in a = get_or a.values 2 0

abbrev pub offers_in : Answer → ℕ
offers_in a = get_or a.values 3 0

-- the body, at the front of the output
abbrev pub body_in : Answer → List ℕ → List ℕ
body_in a out = take (bytes_in a) out

-- the first 24 words a seed are zero and the rest is unchanged
abbrev pub Zeroed : ℕ → List ℕ → List ℕ → Type 0
Zeroed seeds old new = (seeds * 24 ≤ length old) × (new ≡ replicate (seeds * 24) 0 ++ drop (seeds * 24) old)

-- a body names a list where the list is a row set over the span and every call answers it
pub record Named (tag span : ℕ) (body rows : List ℕ) : Type 0 where
  pub held : RowSet span rows
  pub counts : validate_of tag span body ≡ accepted (length rows ∷ [])
  pub ranks : (p : ℕ) → rank_answer tag span body p ≡ accepted (rank_of rows p)
  pub many : (ps old : List ℕ) → length ps ≤ length old → (ranks_answer tag span body ps (length old) ≡ accepted (length ps ∷ [])) × (ranks_left tag span body ps old ≡ over (ranks_of rows ps) old)
  pub selects : (k : ℕ) → select_answer tag span body k ≡ accepted (select_of rows k)
  pub walks : (k : ℕ) (old : List ℕ) → (walk_answer tag span body k (length old) ≡ accepted (length (walk_of rows k (length old)) ∷ [])) × (walk_left tag span body k old ≡ over (walk_of rows k (length old)) old)
