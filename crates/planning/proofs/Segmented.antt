-- T1 for tag 9: the layout of segments that make up rising rows is accepted, and names the rows.
-- Assumes nothing.
use mathlib.Core.Path.{◌≡◌, refl, sym, ap, fun_ext, ◌∙◌}
use mathlib.Core.Bool.{true}
use mathlib.Core.List.{List}
use Prim.Native.Nat.{ℕ, suc, ◌+◌, ◌-◌, ◌<◌, ◌≤◌}
use native.Mathlib.Omega.{arith}
use lib.ListN.{length, get_or, length-append}
use Rattle.model.specs.Tests.{flat, total}
use Rattle.model.specs.Lists.{Rising, positions_of}
use Rattle.model.proofs.Tests.{flat-same, flat_length_step}
use Rattle.model.proofs.Sums.{flat-total, total_within, total-le, total-same}
use Rattle.model.proofs.Positions.{length_positions}
use Rattle.model.proofs.Rising.{rising_from, rising_below, rising_strict, rising_tests}
use Rattle.model.proofs.Pieces.{pieces_select, flat_length_le}
use Rattle.single.specs.Layout.{first_of, extent_of}
use Rattle.directory.specs.Directory.{directory_size}
use Rattle.directory.specs.Layout.{directory_layout}
use Rattle.directory.proofs.LaidOut.{length_layout}
use Rattle.segmented.specs.Segmented.{segmented_accepts, segmented_names}
use Rattle.segmented.specs.Cuts.{Segment, payload, entries_for, cut_layout, cut_rows, SegmentFits, CutFits}
use Rattle.segmented.proofs.CutOut.{cut_accepted, cut_named}
use Rattle.bodies.specs.Bodies.{Holds}
use Rattle.bodies.proofs.Laws.{accepts_nine, names_nine}
use Rattle.planning.specs.Bodies.{segment_at, segment_of, payload_of, payload_at, entries_of, segmented_layout}
use Rattle.planning.proofs.Parts.{tag_local, extent_end, own_rises, own_back, own_full}

-- ---- the pieces of a rising list

module _ {a b : ℕ} (g : ℕ → List ℕ) (n : ℕ) (r : Rising a b (flat g n)) where
  -- element k of piece i stands in the whole
  inside : (i k : ℕ) → i < n → k < length (g i) → length (flat g i) + k < length (flat g n)
  inside i k l h = omega (arith, flat_length_le g (suc i) n l, flat_length_step g i)

  piece_rising : (i : ℕ) → i < n → Rising a b (g i)
  piece_rising i l =
      rising_tests a b (g i)
      (λ k h. rw (pieces_select g n i k l h) at (rising_from r _ (inside i k l h)))
      (λ k h. rw (pieces_select g n i k l h) at (rising_below r _ (inside i k l h)))
      (λ k h. rw (pieces_select g n i k l (omega arith), pieces_select g n i (suc k) l h) at (rising_strict r (length (flat g i) + k) (length (flat g i) + suc k) (omega arith) (inside i (suc k) l h)))

  -- the last of a piece before the first of the next
  piece_before : (i : ℕ) → suc i < n → 1 ≤ length (g i) → 1 ≤ length (g (suc i)) → get_or (g i) (length (g i) - 1) 0 < get_or (g (suc i)) 0 0
  piece_before i l some h =
      let step = flat_length_step g i in
      rw (pieces_select g n i (length (g i) - 1) (omega arith) (omega arith), pieces_select g n (suc i) 0 l h)
      at (rising_strict r (length (flat g i) + (length (g i) - 1)) (length (flat g (suc i)) + 0) (omega arith) (inside (suc i) 0 l h))

-- ---- the length of a layout

module _ (segs : List (List ℕ)) where
  sizes : length (flat (payload_at segs) (length segs)) ≡ total (entries_of segs).size (length segs)
  unfolding entries_of payload_at
  sizes = flat-total _ _ (length segs) (λ i l. refl)

  pub layout_length : length (segmented_layout segs) ≡ directory_size (length segs) + length (flat (payload_at segs) (length segs))
  unfolding segmented_layout
  layout_length = length-append (directory_layout (entries_of segs) (length segs)) _ ∙ rw (length_layout (entries_of segs) (length segs))

  pub length_segmented : length (segmented_layout segs) ≡ directory_size (length segs) + total (entries_of segs).size (length segs)
  length_segmented = layout_length ∙ rw sizes

-- ---- segments that make up rising rows

pub record Segs (span : ℕ) (xs : List ℕ) (segs : List (List ℕ)) : Type 0 where
  pub whole : flat (segment_at segs) (length segs) ≡ xs
  pub rising : Rising 0 span xs
  pub some : 1 ≤ length segs
  pub each : (i : ℕ) → i < length segs → 1 ≤ length (segment_at segs i)
  pub narrow : (i : ℕ) → i < length segs → extent_of (segment_at segs i) ≤ 65535
  pub few : length xs ≤ 65535
  pub wide : span ≤ 4294967295

module _ {span : ℕ} {xs : List ℕ} {segs : List (List ℕ)} (s : Segs span xs segs) where
  rises : Rising 0 span (flat (segment_at segs) (length segs))
  rises = rw s.whole s.rising

  pub segment_rising : (i : ℕ) → i < length segs → Rising 0 span (segment_at segs i)
  segment_rising i l = piece_rising (segment_at segs) (length segs) rises i l

  pub counts : total (entries_of segs).count (length segs) ≡ length xs
  unfolding entries_of
  counts = rw (← s.whole) (sym (flat-total (segment_at segs) (λ i. length (segment_at segs i)) (length segs) (λ i l. refl)))

  pub segment_few : (i : ℕ) → i < length segs → length (segment_at segs i) ≤ 65535
  unfolding entries_of
  segment_few i l = omega (arith, counts, total_within (entries_of segs).count i (length segs) l, s.few)

  segment_end : (i : ℕ) → i < length segs → first_of (segment_at segs i) + extent_of (segment_at segs i) ≡ suc (get_or (segment_at segs i) (length (segment_at segs i) - 1) 0)
  segment_end i l = extent_end (segment_rising i l) (s.each i l)

  pub segment_within : (i : ℕ) → i < length segs → first_of (segment_at segs i) + extent_of (segment_at segs i) ≤ span
  segment_within i l = rw (segment_end i l) (rising_below (segment_rising i l) _ (omega (arith, s.each i l)))

  -- ---- the layout, where it is no longer than its own fields can say

  module _ (short : length (segmented_layout segs) ≤ 65535) where
    abbrev at : ℕ → Segment
    at i = segment_of (segment_at segs i)

    as_cut : segmented_layout segs ≡ cut_layout at (length segs)
    unfolding segmented_layout cut_layout entries_of entries_for payload_at payload_of
    as_cut = rw (fun_ext {f = λ (i : ℕ). length (positions_of (first_of (segment_at segs i)) (segment_at segs i))} {g = λ (i : ℕ). length (segment_at segs i)} (λ i. length_positions (first_of (segment_at segs i)) (segment_at segs i)))

    sizes_within : (i : ℕ) → i < length segs → directory_size (length segs) + total (λ (j : ℕ). length (payload (at j))) (suc i) ≤ 65535
    unfolding entries_of payload_of
    sizes_within i l =
        let whole : length (segmented_layout segs) ≡ directory_size (length segs) + total (λ (j : ℕ). length (payload (at j))) (length segs) = length_segmented segs in
        omega (arith, total-le (λ (j : ℕ). length (payload (at j))) (suc i) (length segs) l)

    own_counts : total (λ (i : ℕ). length (at i).own) (length segs) ≡ length xs
    unfolding entries_of
    own_counts = total-same _ _ (length segs) (λ i l. length_positions (first_of (segment_at segs i)) (segment_at segs i)) ∙ counts

    segment_fits_lem : (i : ℕ) → i < length segs → SegmentFits span (at i)
    unfolding total
    segment_fits_lem i l =
        let n : length (at i).own ≡ length (segment_at segs i) = length_positions (first_of (segment_at segs i)) (segment_at segs i) in
        record {
          within = segment_within i l;
          narrow = s.narrow i l;
          held = record { rising = own_rises (segment_rising i l) (s.each i l); some = omega (arith, s.each i l); most = omega (arith, segment_few i l) };
          local = tag_local (segment_at segs i);
          full = own_full (segment_rising i l) (s.each i l) (segment_few i l);
          short = omega (arith, sizes_within i l);
        }

    fits : CutFits span (length segs) at
    unfolding total first_of
    fits = record {
      some = s.some;
      most = omega (arith, layout_length segs);
      each = segment_fits_lem;
      apart = λ i l. rw (segment_end i (omega arith)) (piece_before (segment_at segs) (length segs) rises i l (s.each i (omega arith)) (s.each (suc i) l));
      few = omega (arith, own_counts, s.few);
      offsets = λ i l. omega (arith, sizes_within i l);
    }

    segmented_accepted : segmented_accepts span (segmented_layout segs) ≡ true
    segmented_accepted = rw as_cut (cut_accepted s.wide fits)

    segmented_named : segmented_names (segmented_layout segs) ≡ xs
    unfolding cut_rows
    segmented_named =
        ap segmented_names as_cut ∙ cut_named s.wide fits
        ∙ flat-same _ (segment_at segs) (length segs) (λ i l. own_back (segment_rising i l) (s.each i l))
        ∙ s.whole

    -- of a whole body
    pub segmented_holds : Holds 9 span xs (segmented_layout segs)
    segmented_holds = record { accepted = accepts_nine 9 span (segmented_layout segs) refl ∙ segmented_accepted; named = names_nine 9 span (segmented_layout segs) refl ∙ segmented_named }
