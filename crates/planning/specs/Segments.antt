-- The segments that merging leaves, as rows counted from the start of the coverage.
-- Assumes nothing.
use Rattle.std.specs.Prelude.{List, [], ◌∷◌, ℕ, ◌-◌, length, take, drop}
use Rattle.stats.specs.declared.Stats.{Stats}
use Rattle.stats.specs.Statistics.{stats_of}
use Rattle.gather_core.specs.Seeds.{start_of}
use Rattle.merge.specs.Rule.{merged, offers, cuts_from}
use Rattle.links.specs.Pairs.{rows_admitted, rows_saving}

-- the rows from index a up to index b
unfoldable pub part : List ℕ → ℕ → ℕ → List ℕ
part xs a b = take (b - a) (drop a xs)

-- the rows of the seeds from the cut l to the cut m
unfoldable pub between : List ℕ → List ℕ → ℕ → ℕ → List ℕ
between xs ends l m = part xs (start_of ends l) (start_of ends m)

-- what the plain rule leaves of the cuts, and its offers
unfoldable pub cuts_left : List ℕ → List ℕ → List ℕ
cuts_left xs ends = merged (rows_admitted (between xs ends)) (rows_saving (between xs ends)) (cuts_from 0 (length ends))

unfoldable pub offers_for : List ℕ → List ℕ → ℕ
offers_for xs ends = offers (rows_admitted (between xs ends)) (rows_saving (between xs ends)) (cuts_from 0 (length ends))

-- what lies between each cut and the next
unfoldable pub pieces : {A : Type 0} → (ℕ → ℕ → A) → List ℕ → List A
pieces g [] = []
pieces g (l ∷ []) = []
pieces g (l ∷ m ∷ cs) = g l m ∷ pieces g (m ∷ cs)

unfoldable pub segments_of : List ℕ → List ℕ → List (List ℕ)
segments_of xs ends = pieces (between xs ends) (cuts_left xs ends)

-- the statistics of each
unfoldable pub stats_each : List (List ℕ) → List Stats
stats_each [] = []
stats_each (s ∷ ss) = stats_of s ∷ stats_each ss
