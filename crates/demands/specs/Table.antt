-- Document 01's starred examples in one table, each beside what the definitions give. The few others of that list that compute stand
-- with them.
-- Assumes nothing.
use Rattle.std.specs.Prelude.{Bool, true, false, List, [], ◌∷◌, ◌++◌, ℕ, ◌+◌, ◌-◌, ◌*◌, eqb, length, get_or}
use Rattle.model.specs.Tests.{both, tabulate}
use Rattle.model.specs.Lists.{range, positions_of}
use Rattle.model.specs.Answers.{Answer, accepted, refused}
use Rattle.bodies.specs.Bodies.{names}
use Rattle.rowset.specs.Calls.{validate_of}
use Rattle.gather_core.specs.declared.Gatherer.{Gatherer}
use Rattle.gather_core.specs.Gather.{page_answer, page_table}
use Rattle.planning.specs.Planning.{planned_body, plan_of}

-- ---- a case, and whether it is as the definitions have it

pub data Case : Type 0 where
  -- planned without seeds, and read back: start, end, rows; tag, body length, segments, offers; the body
  planned : ℕ → ℕ → List ℕ → List ℕ → List ℕ → Case
  -- a page gathered into an empty table of two: its rows; the answer; the table
  gathered : List ℕ → Answer → List ℕ → Case
  -- validated: tag, span, body; the answer
  validated : ℕ → ℕ → List ℕ → Answer → Case

unfoldable pub same : List ℕ → List ℕ → Bool
same [] [] = true
same [] (y ∷ ys) = false
same (x ∷ xs) [] = false
same (x ∷ xs) (y ∷ ys) = both (eqb x y) (same xs ys)

unfoldable pub same_answer : Answer → Answer → Bool
same_answer a b = both (eqb a.number b.number) (same a.values b.values)

unfoldable pub nothing : Gatherer
nothing = record { entries = 0; rows = 0; first = 0; last = 0 }

-- a plan has the largest limit and output, and a workspace for a seed a row. Its body is read over the span: accepted with as many rows, and
-- naming their positions
unfoldable pub holds : Case → Bool
holds (planned start end rows values body) =
    both (both (same_answer (plan_of start end rows [] 65535 (24 * length rows) 65535) (accepted values)) (same (planned_body start end rows []) body))
    (both (same_answer (validate_of (get_or values 0 0) (end - start) body) (accepted (length rows ∷ []))) (same (names (get_or values 0 0) (end - start) body) (positions_of start rows)))
holds (gathered rows answer table) = both (same_answer (page_answer nothing 2 rows) answer) (same (page_table nothing (0 ∷ 0 ∷ []) rows) table)
holds (validated tag span body answer) = same_answer (validate_of tag span body) answer

unfoldable pub all_hold : List Case → Bool
all_hold [] = true
all_hold (c ∷ cs) = both (holds c) (all_hold cs)

-- ---- the table

unfoldable pub cases : List Case
cases =
    -- [100,105), rows 100 to 104: dense
    planned 100 105 (range 100 5) (1 ∷ 0 ∷ 1 ∷ 0 ∷ []) []
    -- [0,10), 3 4 5: a list
    ∷ planned 0 10 (range 3 3) (3 ∷ 6 ∷ 1 ∷ 0 ∷ []) (3 ∷ 0 ∷ 4 ∷ 0 ∷ 5 ∷ 0 ∷ [])
    -- [0,10), 3 4 5 6: trimmed missing, a tie at 8 bytes where depth decides
    ∷ planned 0 10 (range 3 4) (8 ∷ 8 ∷ 1 ∷ 0 ∷ []) (3 ∷ 0 ∷ 0 ∷ 0 ∷ 4 ∷ 0 ∷ 4 ∷ 0 ∷ [])
    -- [0,10), all but 4: missing
    ∷ planned 0 10 (range 0 4 ++ range 5 5) (7 ∷ 6 ∷ 1 ∷ 0 ∷ []) (9 ∷ 0 ∷ 0 ∷ 0 ∷ 4 ∷ 0 ∷ [])
    -- [0,65537), row 65535 and row 65536: lists of 16 and of 32 bits
    ∷ planned 0 65537 (65535 ∷ []) (3 ∷ 2 ∷ 1 ∷ 0 ∷ []) (255 ∷ 255 ∷ [])
    ∷ planned 0 65537 (65536 ∷ []) (2 ∷ 4 ∷ 1 ∷ 0 ∷ []) (0 ∷ 0 ∷ 1 ∷ 0 ∷ [])
    -- [0,200), 10 to 19 and 100 to 109: runs
    ∷ planned 0 200 (range 10 10 ++ range 100 10) (4 ∷ 16 ∷ 1 ∷ 0 ∷ []) (20 ∷ 0 ∷ 2 ∷ 0 ∷ 10 ∷ 0 ∷ 10 ∷ 0 ∷ 0 ∷ 0 ∷ 100 ∷ 0 ∷ 10 ∷ 0 ∷ 10 ∷ 0 ∷ [])
    -- [0,64), evens: a bitmap
    ∷ planned 0 64 (tabulate (λ (i : ℕ). 2 * i) 32) (6 ∷ 14 ∷ 1 ∷ 0 ∷ []) (32 ∷ 0 ∷ 0 ∷ 0 ∷ 0 ∷ 0 ∷ 85 ∷ 85 ∷ 85 ∷ 85 ∷ 85 ∷ 85 ∷ 85 ∷ 85 ∷ [])
    -- [0,200000), 100000 + 100i: ten rows are 40 bytes each way, and the list is taken; twelve are one segment
    ∷ planned 0 200000 (tabulate (λ (i : ℕ). 100000 + 100 * i) 10) (2 ∷ 40 ∷ 1 ∷ 0 ∷ []) (160 ∷ 134 ∷ 1 ∷ 0 ∷ 4 ∷ 135 ∷ 1 ∷ 0 ∷ 104 ∷ 135 ∷ 1 ∷ 0 ∷ 204 ∷ 135 ∷ 1 ∷ 0 ∷ 48 ∷ 136 ∷ 1 ∷ 0 ∷ 148 ∷ 136 ∷ 1 ∷ 0 ∷ 248 ∷ 136 ∷ 1 ∷ 0 ∷ 92 ∷ 137 ∷ 1 ∷ 0 ∷ 192 ∷ 137 ∷ 1 ∷ 0 ∷ 36 ∷ 138 ∷ 1 ∷ 0 ∷ [])
    ∷ planned 0 200000 (tabulate (λ (i : ℕ). 100000 + 100 * i) 12) (9 ∷ 44 ∷ 1 ∷ 0 ∷ []) (12 ∷ 0 ∷ 1 ∷ 0 ∷ 160 ∷ 134 ∷ 1 ∷ 0 ∷ 77 ∷ 4 ∷ 12 ∷ 0 ∷ 0 ∷ 0 ∷ 20 ∷ 0 ∷ 24 ∷ 0 ∷ 3 ∷ 0 ∷ 0 ∷ 0 ∷ 100 ∷ 0 ∷ 200 ∷ 0 ∷ 44 ∷ 1 ∷ 144 ∷ 1 ∷ 244 ∷ 1 ∷ 88 ∷ 2 ∷ 188 ∷ 2 ∷ 32 ∷ 3 ∷ 132 ∷ 3 ∷ 232 ∷ 3 ∷ 76 ∷ 4 ∷ [])
    -- [0,10000), 0 4096 8192: three windows become one segment, by 3 offers
    ∷ planned 0 10000 (0 ∷ 4096 ∷ 8192 ∷ []) (3 ∷ 6 ∷ 1 ∷ 3 ∷ []) (0 ∷ 0 ∷ 0 ∷ 16 ∷ 0 ∷ 32 ∷ [])
    -- [0,8192), 0 to 9 without 5, 4096 to 4105: the join saves 0 and is made
    ∷ planned 0 8192 (range 0 5 ++ range 6 4 ++ range 4096 10) (4 ∷ 22 ∷ 1 ∷ 1 ∷ []) (19 ∷ 0 ∷ 3 ∷ 0 ∷ 0 ∷ 0 ∷ 5 ∷ 0 ∷ 0 ∷ 0 ∷ 6 ∷ 0 ∷ 4 ∷ 0 ∷ 5 ∷ 0 ∷ 0 ∷ 16 ∷ 10 ∷ 0 ∷ 9 ∷ 0 ∷ [])
    -- [0,65536): 0 and 65534 join, 0 and 65535 do not
    ∷ planned 0 65536 (0 ∷ 65534 ∷ []) (3 ∷ 4 ∷ 1 ∷ 1 ∷ []) (0 ∷ 0 ∷ 254 ∷ 255 ∷ [])
    ∷ planned 0 65536 (0 ∷ 65535 ∷ []) (3 ∷ 4 ∷ 2 ∷ 0 ∷ []) (0 ∷ 0 ∷ 255 ∷ 255 ∷ [])
    -- the same two as a page: one seed, two seeds
    ∷ gathered (0 ∷ 65534 ∷ []) (accepted (1 ∷ 2 ∷ 0 ∷ 65534 ∷ [])) (2 ∷ 0 ∷ [])
    ∷ gathered (0 ∷ 65535 ∷ []) (accepted (2 ∷ 2 ∷ 65535 ∷ 65535 ∷ [])) (1 ∷ 2 ∷ [])
    -- runs that touch are refused, and accepted where they do not
    ∷ validated 4 10 (4 ∷ 0 ∷ 2 ∷ 0 ∷ 0 ∷ 0 ∷ 2 ∷ 0 ∷ 0 ∷ 0 ∷ 2 ∷ 0 ∷ 2 ∷ 0 ∷ 2 ∷ 0 ∷ []) (refused 8)
    ∷ validated 4 10 (4 ∷ 0 ∷ 2 ∷ 0 ∷ 0 ∷ 0 ∷ 2 ∷ 0 ∷ 0 ∷ 0 ∷ 3 ∷ 0 ∷ 2 ∷ 0 ∷ 2 ∷ 0 ∷ []) (accepted (4 ∷ []))
    -- the last position of 16 bits; more rows than ordinals; tags that there are not
    ∷ validated 4 65536 (1 ∷ 0 ∷ 1 ∷ 0 ∷ 255 ∷ 255 ∷ 1 ∷ 0 ∷ 0 ∷ 0 ∷ []) (accepted (1 ∷ []))
    ∷ validated 1 65536 [] (refused 8)
    ∷ validated 0 5 [] (refused 8)
    ∷ validated 10 5 [] (refused 8)
    ∷ []
