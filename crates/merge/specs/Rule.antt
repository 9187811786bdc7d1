-- Merging as document 01 states it, over any admission and any saving: the plain rule that the queue with stale offers has to answer as.
-- A state is the list of cuts, seed indices that rise from 0 to n: the segment between neighbouring cuts l and m is the seeds l to m - 1.
-- A pair of neighbouring segments is three neighbouring cuts l, m, r, and joining it takes the cut m out. So segments only ever grow
-- together, and what lies between two cuts is never touched.
-- Assumes nothing.
use Rattle.std.specs.Prelude.{Bool, true, List, [], ◌∷◌, ℕ, zero, suc, ◌+◌, eqb, leb, length}
use Rattle.model.specs.Tests.{both, pick}

-- a pair of neighbouring segments by its cuts, or none
pub data Choice : Type 0 where
  none : Choice
  pair : ℕ → ℕ → ℕ → Choice

-- the cuts without the cut m
unfoldable pub without : ℕ → List ℕ → List ℕ
without m [] = []
without m (c ∷ cs) = pick (eqb c m) cs (c ∷ without m cs)

-- the cuts of k seeds from i on, each a segment
unfoldable pub cuts_from : ℕ → ℕ → List ℕ
cuts_from i zero = i ∷ []
cuts_from i (suc k) = i ∷ cuts_from (suc i) k

unfoldable pub one_if : Bool → ℕ
one_if t = pick {A = ℕ} t 1 0

-- whether the segment from x to y is one of the two of a pair
unfoldable pub contains : ℕ → ℕ → ℕ → ℕ → ℕ → Bool
contains x y l m r = pick (both (eqb l x) (eqb m y)) true (both (eqb m x) (eqb r y))

-- how much the segments hold together, where c says what the segment from one cut to another holds
unfoldable pub counted : (ℕ → ℕ → ℕ) → List ℕ → ℕ
counted c [] = 0
counted c (l ∷ []) = 0
counted c (l ∷ m ∷ cs) = c l m + counted c (m ∷ cs)

module _ (adm : ℕ → ℕ → ℕ → Bool) where
  -- how many pairs are admitted
  unfoldable pub pairs : List ℕ → ℕ
  pairs [] = 0
  pairs (l ∷ []) = 0
  pairs (l ∷ m ∷ []) = 0
  pairs (l ∷ m ∷ r ∷ cs) = one_if (adm l m r) + pairs (m ∷ r ∷ cs)

  -- how many of them contain the segment from x to y
  unfoldable pub pairs_with : ℕ → ℕ → List ℕ → ℕ
  pairs_with x y [] = 0
  pairs_with x y (l ∷ []) = 0
  pairs_with x y (l ∷ m ∷ []) = 0
  pairs_with x y (l ∷ m ∷ r ∷ cs) = one_if (both (contains x y l m r) (adm l m r)) + pairs_with x y (m ∷ r ∷ cs)

-- of two choices, the one that saves more, and the first where they save the same
unfoldable pub better : (ℕ → ℕ → ℕ → ℕ) → Choice → Choice → Choice
better sav none q = q
better sav (pair l m r) none = pair l m r
better sav (pair l m r) (pair a b c) = pick (leb (sav a b c) (sav l m r)) (pair l m r) (pair a b c)

module _ (adm : ℕ → ℕ → ℕ → Bool) (sav : ℕ → ℕ → ℕ → ℕ) where
  -- the admitted pair with the largest saving, leftmost on a tie
  unfoldable pub best : List ℕ → Choice
  best [] = none
  best (l ∷ []) = none
  best (l ∷ m ∷ []) = none
  best (l ∷ m ∷ r ∷ cs) = better sav (pick (adm l m r) (pair l m r) none) (best (m ∷ r ∷ cs))

  -- after k joins, or as many as there are: each joins the best pair
  unfoldable pub after_joins : ℕ → List ℕ → List ℕ
  after_joins zero cs = cs
  after_joins (suc k) cs = elim (best cs) [ none ↦ cs | pair l m r ↦ after_joins k (without m cs) ]

  -- the offers that these joins bring: after each, the admitted pairs that contain the joined segment
  unfoldable pub later_offers : ℕ → List ℕ → ℕ
  later_offers zero cs = 0
  later_offers (suc k) cs = elim (best cs) [ none ↦ 0 | pair l m r ↦ pairs_with adm l r (without m cs) + later_offers k (without m cs) ]

  -- joined until no pair is admitted: each join takes a cut out, so there are fewer joins than cuts
  unfoldable pub merged : List ℕ → List ℕ
  merged cs = after_joins (length cs) cs

  -- the admitted pairs at the start, and those that each join brings
  unfoldable pub offers : List ℕ → ℕ
  offers cs = pairs adm cs + later_offers (length cs) cs
