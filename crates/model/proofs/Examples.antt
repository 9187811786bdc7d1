-- The vocabulary on document 01's lists.
-- Assumes nothing.
use mathlib.Core.Path.{◌≡◌, refl}
use mathlib.Core.List.{List, [], ◌∷◌, ◌++◌}
use Prim.Native.Nat.{ℕ}
use Rattle.model.specs.Tests.{both, pick}
use Rattle.model.specs.Lists.{below, has, place_of, rank_of, select_of, walk_of, range, shift, complement, run, spread, onto, runs_of}
use Rattle.model.specs.Answers.{over, rank_or_none, ranks_of, lies_in, rank_in, ranks_in}

-- [0,10), all but 4
all_but_4 : List ℕ
all_but_4 = 0 ∷ 1 ∷ 2 ∷ 3 ∷ 5 ∷ 6 ∷ 7 ∷ 8 ∷ 9 ∷ []

holes : complement 0 10 all_but_4 ≡ 4 ∷ []
unfolding complement range all_but_4
holes = refl

filled : complement 0 10 (4 ∷ []) ≡ all_but_4
unfolding complement range all_but_4
filled = refl

-- [0,200), 10 to 19 and 100 to 109
two_runs : runs_of (range 10 10 ++ range 100 10) ≡ run 10 10 ∷ run 100 10 ∷ []
unfolding runs_of onto range pick
two_runs = refl

spread_out : spread (run 3 3 ∷ run 9 1 ∷ []) ≡ 3 ∷ 4 ∷ 5 ∷ 9 ∷ []
unfolding spread range
spread_out = refl

-- 3 4 5: the ordinal of 4 is 1 and 7 has none; the ordinal 1 is 4 and 3 is past the end
ranked : (rank_of (3 ∷ 4 ∷ 5 ∷ []) 4 ≡ 1 ∷ []) × (rank_of (3 ∷ 4 ∷ 5 ∷ []) 7 ≡ [])
unfolding rank_of has below pick
ranked = (refl, refl)

-- asked together: 4,294,967,295 stands for none
many : ranks_of (3 ∷ 4 ∷ 5 ∷ []) (4 ∷ 7 ∷ []) ≡ 1 ∷ 4294967295 ∷ []
unfolding ranks_of rank_or_none place_of has below pick
many = refl

-- a part of span 3 that begins at 100: its second position, the one before the part, and the one behind it
in_part : ranks_in (place_of (0 ∷ 1 ∷ 2 ∷ [])) 100 3 (101 ∷ 99 ∷ 103 ∷ []) ≡ 1 ∷ 4294967295 ∷ 4294967295 ∷ []
unfolding rank_in lies_in both rank_or_none place_of has below pick
in_part = refl

selected : (select_of (3 ∷ 4 ∷ 5 ∷ []) 1 ≡ 4 ∷ []) × (select_of (3 ∷ 4 ∷ 5 ∷ []) 3 ≡ [])
selected = (refl, refl)

-- a walk from ordinal 1 into room for five
walked : walk_of (3 ∷ 4 ∷ 5 ∷ []) 1 5 ≡ 4 ∷ 5 ∷ []
walked = refl

-- rows 100 to 104, counted from 100
counted : shift 100 (range 0 5) ≡ range 100 5
unfolding shift range
counted = refl

written : over {A = ℕ} (7 ∷ 8 ∷ []) (1 ∷ 2 ∷ 3 ∷ 4 ∷ []) ≡ 7 ∷ 8 ∷ 3 ∷ 4 ∷ []
unfolding over
written = refl
