-- The segments of a plan meet what a segmented layout asks for: so it is as long as its form says, is accepted and names the rows.
-- Assumes nothing.
use mathlib.Core.List.{List}
use Prim.Native.Nat.{ℕ, ◌-◌}
use Rattle.model.specs.Lists.{positions_of}
use Rattle.model.proofs.Positions.{length_positions}
use Rattle.planning.specs.Segments.{segments_of}
use Rattle.planning.proofs.Dividing.{Divided}
use Rattle.planning.proofs.Narrow.{divided_narrow, plan_parts, parts_flat, parts_each, parts_some}
use Rattle.planning.proofs.Segmented.{Segs, segmented_holds}
use Rattle.planning.proofs.Sized.{segmented_size}
use Rattle.planning.proofs.Sound.{SegmentedGood}

module _ {start end words : ℕ} {rows ends : List ℕ} (d : Divided start end rows ends words) where
  pub plan_segs : Segs (end - start) (positions_of start rows) (segments_of (positions_of start rows) ends)
  plan_segs =
      let parts = plan_parts (positions_of start rows) ends (divided_narrow d) in
      record {
        whole = parts_flat parts;
        rising = d.positions;
        some = parts_some parts (rw length_positions d.some);
        each = λ i h. (parts_each parts i h).some;
        narrow = λ i h. (parts_each parts i h).short;
        few = rw length_positions d.few;
        wide = d.spans;
      }

  pub plan_good : SegmentedGood (end - start) (positions_of start rows) (segments_of (positions_of start rows) ends)
  plan_good = record { sized = segmented_size plan_segs; holds = segmented_holds plan_segs }
