-- Lists of positions: the vocabulary in which every form of a row set is described.
-- Assumes nothing.
use Rattle.std.specs.Prelude.{Bool, true, false, List, [], ◌∷◌, ◌++◌, ℕ, zero, suc, ◌+◌, ◌-◌, ◌%◌, ◌<◌, ◌≤◌, ltb, leb, eqb, take, drop}
use Rattle.model.specs.Tests.{both, pick}
use Rattle.model.specs.declared.Place.{Place}

-- strictly rising, each at least a and below b: one notion for rows, holes and the starts of segments
pub data Rising : ℕ → ℕ → List ℕ → Type 0 where
  none : {a b : ℕ} → Rising a b []
  more : {a b x : ℕ} {xs : List ℕ} → a ≤ x → x < b → Rising (suc x) b xs → Rising a b (x ∷ xs)

-- what every form asks of a count: at least one row, not more than the span, not more than ordinals can number
unfoldable pub counted : ℕ → ℕ → Bool
counted span n = both (leb 1 n) (both (leb n span) (leb n 65535))

-- how many of the list are below p
unfoldable pub below : List ℕ → ℕ → ℕ
below [] p = 0
below (x ∷ xs) p = pick (ltb x p) (suc (below xs p)) (below xs p)

-- whether p is in the list
unfoldable pub has : List ℕ → ℕ → Bool
has [] p = false
has (x ∷ xs) p = pick (eqb x p) true (has xs p)

-- the place of a position
unfoldable pub place_of : List ℕ → ℕ → Place
place_of xs p = record { below = below xs p; present = has xs p }

-- the walk from the k-th on: as many as fit or remain
abbrev pub walk_of : List ℕ → ℕ → ℕ → List ℕ
walk_of xs k n = take n (drop k xs)

-- the k-th, if there is one
abbrev pub select_of : List ℕ → ℕ → List ℕ
select_of xs k = walk_of xs k 1

-- the ordinal of p, if p is in the list
unfoldable pub rank_of : List ℕ → ℕ → List ℕ
rank_of xs p = pick (has xs p) (below xs p ∷ []) []

-- n positions from a on
unfoldable pub range : ℕ → ℕ → List ℕ
range a zero = []
range a (suc n) = a ∷ range (suc a) n

-- positions of a part that starts at b, as positions of the whole
unfoldable pub shift : ℕ → List ℕ → List ℕ
shift b [] = []
shift b (x ∷ xs) = (b + x) ∷ shift b xs

-- and back: the positions of rows in a coverage that starts at start
unfoldable pub positions_of : ℕ → List ℕ → List ℕ
positions_of start [] = []
positions_of start (r ∷ rs) = (r - start) ∷ positions_of start rs

-- the shift in 32 bits, as a walk over any bytes writes it: where nothing passes 2^32 it is the shift
unfoldable pub moved : ℕ → List ℕ → List ℕ
moved b [] = []
moved b (x ∷ xs) = (b + x) % 4294967296 ∷ moved b xs

-- the positions from a up to b that a rising list leaves out
unfoldable pub complement : ℕ → ℕ → List ℕ → List ℕ
complement a b [] = range a (b - a)
complement a b (x ∷ xs) = range a (x - a) ++ complement (suc x) b xs

-- a run: where it starts, and how many positions it has
pub record Run : Type 0 where
  pub start : ℕ
  pub size : ℕ

abbrev pub run : ℕ → ℕ → Run
run s n = record { start = s; size = n }

-- the positions of runs
unfoldable pub spread : List Run → List ℕ
spread [] = []
spread (r ∷ rs) = range r.start r.size ++ spread rs

-- the runs of a list with x put in front
unfoldable pub onto : ℕ → List Run → List Run
onto x [] = run x 1 ∷ []
onto x (r ∷ rs) = pick (eqb r.start (suc x)) (run x (suc r.size) ∷ rs) (run x 1 ∷ r ∷ rs)

-- the runs of a list, each as long as can be
unfoldable pub runs_of : List ℕ → List Run
runs_of [] = []
runs_of (x ∷ xs) = onto x (runs_of xs)

-- runs that are not empty, start at a or after, do not touch, and end at b or before
pub data Apart : ℕ → ℕ → List Run → Type 0 where
  stop : {a b : ℕ} → Apart a b []
  next : {a b : ℕ} {r : Run} {rs : List Run} → a ≤ r.start → 1 ≤ r.size → r.start + r.size ≤ b → Apart (suc (r.start + r.size)) b rs → Apart a b (r ∷ rs)
