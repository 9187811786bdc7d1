-- Cuts that a table of ends leads through.
-- Assumes nothing.
use Rattle.std.specs.Prelude.{◌≡◌, List, [], ◌∷◌, ℕ, ◌<◌, ◌≤◌}

-- from each cut of the list the table leads to the next, and from the last to 0
pub data Chain (nx : ℕ → ℕ) : List ℕ → Type 0 where
  end : {x : ℕ} → nx x ≡ 0 → Chain nx (x ∷ [])
  link : {x y : ℕ} {cs : List ℕ} → nx x ≡ y → Chain nx (y ∷ cs) → Chain nx (x ∷ y ∷ cs)

-- three cuts of n seeds that rise: where two segments start, meet and end
pub record Cuts (n l m r : ℕ) : Type 0 where
  pub lm : l < m
  pub mr : m < r
  pub rn : r ≤ n
