-- The deletion view, read: which section is refused and by which number, the ordinals that it names, and what each call answers.
-- Everything is said over the list of deleted ordinals. No answer holds a deletion's rank in it.
-- Assumes nothing.
use Rattle.std.specs.Prelude.{Bool, true, List, [], ◌∷◌, ℕ, ◌+◌, eqb, leb, length, Option, Some, None, Result}
use Rattle.model.specs.Tests.{pick, both}
use Rattle.model.specs.Lists.{has, walk_of}
use Rattle.model.specs.Answers.{Answer, over}
use Rattle.model.specs.Refusals.{answer_of}
use Rattle.model.specs.declared.refusal.Refusal.{Refusal}
use Rattle.bitmap.specs.Body.{bitmap_length}
use Rattle.bodies.specs.Bodies.{accepts, names}
use Rattle.bodies.specs.declared.Accepted.{Accepted}
use Rattle.planning.specs.Planning.{answered}
use Rattle.deletion.specs.declared.Coded.{Coded}

-- ---- the number and the values of each answer

unfoldable pub counted_of : Result ℕ Refusal → Answer
counted_of result = answer_of (λ n. n ∷ []) result

-- 1 for yes, 0 for no
unfoldable pub contained_of : Result Bool Refusal → Answer
contained_of result = answer_of (λ yes. pick {A = ℕ} yes 1 0 ∷ []) result

-- ---- the tests

-- the longest body: a bitmap of all rows, with its header
unfoldable pub body_limit : ℕ → ℕ
body_limit rows = 4 + bitmap_length rows

-- 9: row count 0 or above the block limit
unfoldable pub block_fits : ℕ → ℕ → Bool
block_fits rows limit = both (leb 1 rows) (leb rows limit)

-- 9 in reading, besides: stated count 0 or above the row count, or body longer than a bitmap of all rows
unfoldable pub stated_fit : ℕ → ℕ → ℕ → Bool
stated_fit rows count size = both (leb 1 count) (both (leb count rows) (leb size (body_limit rows)))

-- 9, then 8, then 10: the number of the first that is due, or 0
unfoldable pub coded_number : ℕ → ℕ → ℕ → ℕ → List ℕ → ℕ
coded_number rows limit count tag body =
    pick (both (block_fits rows limit) (stated_fit rows count (length body)))
    (pick (accepts tag rows body) (pick {A = ℕ} (eqb (length (names tag rows body)) count) 0 10) 8)
    9

-- of an empty section the row count alone is tested
unfoldable pub section_number : ℕ → ℕ → Option Coded → List ℕ → ℕ
section_number rows limit None body = pick {A = ℕ} (block_fits rows limit) 0 9
section_number rows limit (Some s) body = coded_number rows limit s.count s.tag body

-- ---- what a section holds

-- the deleted ordinals
unfoldable pub deleted_of : ℕ → Option Coded → List ℕ → List ℕ
deleted_of rows None body = []
deleted_of rows (Some s) body = names s.tag rows body

-- the same from its body, which no test refused
unfoldable pub held_by : Option Accepted → List ℕ
held_by None = []
held_by (Some a) = names a.tag a.span a.body.now

-- the count that it states
unfoldable pub stated_of : Option Coded → ℕ
stated_of None = 0
stated_of (Some s) = s.count

-- a section whose body is accepted with the stated count
unfoldable pub sound : ℕ → Option Coded → List ℕ → Bool
sound rows None body = true
sound rows (Some s) body = both (accepts s.tag rows body) (eqb (length (names s.tag rows body)) s.count)

-- ---- the calls

unfoldable pub check_answer : ℕ → ℕ → Option Coded → List ℕ → Answer
check_answer rows limit s body = answered (section_number rows limit s body) (length (deleted_of rows s body) ∷ [])

unfoldable pub contains_answer : ℕ → ℕ → Option Coded → List ℕ → ℕ → Answer
contains_answer rows limit s body ordinal = answered (section_number rows limit s body) (pick {A = ℕ} (has (deleted_of rows s body) ordinal) 1 0 ∷ [])

-- the deleted ordinals from the k-th on, as many as fit or remain
unfoldable pub walk_answer : ℕ → ℕ → Option Coded → List ℕ → ℕ → ℕ → Answer
walk_answer rows limit s body k room = answered (section_number rows limit s body) (length (walk_of (deleted_of rows s body) k room) ∷ [])

unfoldable pub walk_left : ℕ → ℕ → Option Coded → List ℕ → ℕ → List ℕ → List ℕ
walk_left rows limit s body k old = pick (eqb (section_number rows limit s body) 0) (over (walk_of (deleted_of rows s body) k (length old)) old) old
