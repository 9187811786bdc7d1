-- What a call answers, in document 01's numbers, and what it leaves in a lent slice.
-- Assumes nothing.
use Rattle.std.specs.Prelude.{◌≡◌, Bool, List, [], ◌++◌, map, ℕ, ◌-◌, leb, ltb, length, drop}
use Rattle.model.specs.Tests.{both, pick}
use Rattle.model.specs.Lists.{place_of}
use Rattle.model.specs.declared.Place.{Place}

-- the number of the refusal, or 0, and the values of an answer that is none
pub record Answer : Type 0 where
  pub number : ℕ
  pub values : List ℕ

abbrev pub accepted : List ℕ → Answer
accepted vs = record { number = 0; values = vs }

abbrev pub refused : ℕ → Answer
refused k = record { number = k; values = [] }

-- a lent slice with the front written over, and the rest as it was
unfoldable pub over : {A : Type 0} → List A → List A → List A
over front xs = front ++ drop (length front) xs

-- a walk left the positions in front of the lent slice and the rest as it was, and answered their number
pub record Walked (rows before after : List ℕ) (n : ℕ) : Type 0 where
  pub written : after ≡ over rows before
  pub number : n ≡ length rows

-- ---- many ranks: one answer for each query, 4,294,967,295 for nothing

unfoldable pub rank_or_none : Place → ℕ
rank_or_none q = pick q.present q.below 4294967295

unfoldable pub ranks_of : List ℕ → List ℕ → List ℕ
ranks_of rows ps = map (λ p. rank_or_none (place_of rows p)) ps

-- of a part that begins at base: whether p lies in it, and the answer for p by the place in the part
unfoldable pub lies_in : ℕ → ℕ → ℕ → Bool
lies_in base span p = both (leb base p) (ltb (p - base) span)

unfoldable pub rank_in : (ℕ → Place) → ℕ → ℕ → ℕ → ℕ
rank_in place base span p = pick (lies_in base span p) (rank_or_none (place (p - base))) 4294967295

abbrev pub ranks_in : (ℕ → Place) → ℕ → ℕ → List ℕ → List ℕ
ranks_in place base span ps = map (rank_in place base span) ps
