-- Which pairs are admitted and what they save, from the statistics of the seeds: document 01, "Merging".
-- Assumes nothing.
use Rattle.std.specs.Prelude.{Bool, List, ℕ, zero, suc, ◌+◌, ◌-◌, ◌<◌, leb}
use Rattle.model.specs.Tests.{both}
use Rattle.stats.specs.declared.Stats.{Stats}
use Rattle.stats.specs.Statistics.{Sound, stats_of, joined, span_of}
use Rattle.cost.specs.Forms.{payload}

-- a neighbouring pair is admitted if its joined L ≤ 65,535 and saving 16 + left + right − joined ≥ 0
unfoldable pub admits : Stats → Stats → Bool
admits a b = both (leb (span_of (joined a b)) 65535) (leb (payload (joined a b)) (16 + payload a + payload b))

unfoldable pub saves : Stats → Stats → ℕ
saves a b = 16 + payload a + payload b - payload (joined a b)

-- the statistics of k + 1 seeds from l on, where those of seed i are f i
unfoldable pub total_from : (ℕ → Stats) → ℕ → ℕ → Stats
total_from f l zero = f l
total_from f l (suc k) = joined (total_from f l k) (f (suc (l + k)))

-- of the segment from the cut l to the cut m
unfoldable pub segment_of : (ℕ → Stats) → ℕ → ℕ → Stats
segment_of f l m = total_from f l (m - suc l)

-- of the pair of segments that meet at m
unfoldable pub admitted : (ℕ → Stats) → ℕ → ℕ → ℕ → Bool
admitted f l m r = admits (segment_of f l m) (segment_of f m r)

unfoldable pub saving : (ℕ → Stats) → ℕ → ℕ → ℕ → ℕ
saving f l m r = saves (segment_of f l m) (segment_of f m r)

-- statistics of n seeds as gathering or windows make them: each sound, each after the one before
pub record Seeds (f : ℕ → Stats) (n : ℕ) : Type 0 where
  pub sound : (i : ℕ) → i < n → Sound (f i)
  pub apart : (i : ℕ) → suc i < n → (f i).last < (f (suc i)).first

-- the same over rows: `rows l m` are the rows of the seeds from the cut l to the cut m
unfoldable pub rows_admitted : (ℕ → ℕ → List ℕ) → ℕ → ℕ → ℕ → Bool
rows_admitted rows l m r = admits (stats_of (rows l m)) (stats_of (rows m r))

unfoldable pub rows_saving : (ℕ → ℕ → List ℕ) → ℕ → ℕ → ℕ → ℕ
rows_saving rows l m r = saves (stats_of (rows l m)) (stats_of (rows m r))
