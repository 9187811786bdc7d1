-- What stands in the workspace before merging, and what is known after it.
-- Assumes nothing.
use Rattle.std.specs.Prelude.{◌≡◌, List, ℕ, ◌*◌, ◌-◌, ◌<◌, ◌≤◌, length}
use Rattle.model.specs.Lists.{Rising}
use Rattle.links.specs.Tables.{records, stat_at}
use Rattle.links.specs.Pairs.{Seeds}
use Rattle.merge.specs.Steps.{Merged, offers_of}
use Rattle.planning.specs.Refusals.{ends_of, early_number}
use Rattle.planning.specs.Segments.{segments_of, offers_for}
use Rattle.planning.specs.Bodies.{form_for}
use Rattle.planning.specs.Held.{Held}
use Rattle.assemble.specs.Sums.{Summed}
use Rattle.plan.specs.declared.Decision.{Decision}

-- the tests before merging are met, and n counts the seeds
abbrev pub Tested : ℕ → ℕ → List ℕ → List ℕ → ℕ → List ℕ → Type 0
Tested start end rows seeds n w = (early_number start end rows seeds (length w) ≡ 0) × (n ≡ length (ends_of rows seeds))

-- the n seeds of the rows xs stand in the workspace w, and merging them leaves the segments of the plain rule
pub record Mergeable (xs ends : List ℕ) (span n : ℕ) (w : List ℕ) : Type 0 where
  pub some : 0 < n
  pub most : n < 65536
  pub room : n * 24 ≤ length w
  pub wide : span ≤ 4294967295
  pub rising : Rising 0 span xs
  pub rows : 1 ≤ length xs
  pub seeds : Seeds (stat_at (records n w)) n
  pub offers : offers_of (stat_at (records n w)) n ≡ offers_for xs ends
  pub held : (w' : List ℕ) → length w' ≡ length w → Merged (stat_at (records n w)) n (records n w') → Held n w' 0 xs (segments_of xs ends)

-- the segments stand in the workspace, and the form is chosen
pub record Decided (xs ends : List ℕ) (span n : ℕ) (w : List ℕ) (d : Decision) : Type 0 where
  pub held : Held n w 0 xs (segments_of xs ends)
  pub sum : Summed n w d.sum
  pub form : d.form ≡ form_for span xs (segments_of xs ends)
  pub offers : d.offers ≡ offers_for xs ends
  pub most : d.offers ≤ 3 * (n - 1)
