-- The bytes that a segmented form states are the length of its layout.
-- Assumes nothing.
use mathlib.Core.Path.{◌≡◌, refl, ap, ◌∙◌}
use mathlib.Core.List.{List, [], ◌∷◌}
use Prim.Native.Nat.{ℕ, suc}
use native.Mathlib.Omega.{arith}
use lib.ListN.{length}
use Rattle.model.specs.Tests.{total}
use Rattle.model.proofs.Sums.{total_front, total-same}
use Rattle.stats.specs.Statistics.{stats_of}
use Rattle.cost.specs.Forms.{local_form}
use Rattle.planning.specs.Segments.{stats_each}
use Rattle.planning.specs.Bodies.{payloads, segmented_form, segment_at, entries_of, segmented_layout}
use Rattle.planning.proofs.Parts.{payload_size}
use Rattle.planning.proofs.Segmented.{Segs, segment_rising, length_segmented}

pub length_each : (segs : List (List ℕ)) → length (stats_each segs) ≡ length segs
unfolding stats_each
length_each [] = refl
length_each (s ∷ segs) = ap suc (length_each segs)

-- by recursion, or over the indices
payloads-total : (segs : List (List ℕ)) → total (λ (i : ℕ). (local_form (stats_of (segment_at segs i))).bytes) (length segs) ≡ payloads (stats_each segs)
unfolding payloads stats_each segment_at total
payloads-total [] = refl
payloads-total (s ∷ segs) = total_front _ (length segs) ∙ rw (payloads-total segs)

pub segmented_size : {span : ℕ} {xs : List ℕ} {segs : List (List ℕ)} → Segs span xs segs → length (segmented_layout segs) ≡ (segmented_form (stats_each segs)).bytes
unfolding segmented_form entries_of
segmented_size {segs = segs} s =
    let sum = total-same _ _ (length segs) (λ i l. payload_size (segment_rising s i l) (s.each i l)) ∙ payloads-total segs in
    omega (arith, length_segmented segs, length_each segs, sum)
