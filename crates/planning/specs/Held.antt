-- What the records of the workspace hold after merging: the segments, in order, as rows.
-- Assumes nothing.
use Rattle.std.specs.Prelude.{◌≡◌, List, [], ◌∷◌, ◌++◌, ℕ, ◌<◌, ◌≤◌, length}
use Rattle.stats.specs.Statistics.{stats_of, span_of}
use Rattle.links.specs.Tables.{next, stat_at}

-- from the cut x on the records lead through these segments of the rows xs up to the cut n; each has rows, a span of 16 bits, and its statistics in its record
pub data Held (n : ℕ) (t : List ℕ) : ℕ → List ℕ → List (List ℕ) → Type 0 where
  end : {x : ℕ} {xs : List ℕ} → x ≡ n → xs ≡ [] → Held n t x xs []
  more : {x : ℕ} {xs seg rest : List ℕ} {segs : List (List ℕ)} → xs ≡ seg ++ rest → x < next t x → next t x ≤ n → 1 ≤ length seg → span_of (stats_of seg) ≤ 65535 → stat_at t x ≡ stats_of seg
      → Held n t (next t x) rest segs → Held n t x xs (seg ∷ segs)
