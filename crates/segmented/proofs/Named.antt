-- What an accepted segmented body names, and that its readers answer that list.
-- Assumes nothing.
use Rattle.std.proofs.Common.{◌≡◌, ℕ, ◌+◌, ◌-◌, ◌<◌, ◌≤◌, true, false, List, length, get_or, drop, sym, ◌∙◌, mod-eq_of_lt, arith}
use Rattle.fields.specs.Le.{Bytes}
use Rattle.fields.proofs.Laws.{bytes_tail, bytes_front}
use Rattle.model.specs.Lists.{Rising, below, has, place_of, walk_of, moved}
use Rattle.model.specs.declared.Place.{Place}
use Rattle.model.proofs.Tests.{both_left, both_right, all_at}
use Rattle.model.proofs.Standing.{below_most, below_whole, has_outside}
use Rattle.model.proofs.Rising.{rising_below}
use Rattle.directory.specs.Directory.{stated_segments, stated_count, starts_to, ordinals_to, start_at, ordinal_at, tag_at, span_at, count_at, offset_at, length_at, entry_of, part_of, directory_accepts, names_of}
use Rattle.directory.specs.declared.Segment.{Segment}
use Rattle.directory.proofs.Parts.{Directory, accepts_directory}
use Rattle.directory.proofs.Facts.{payload-length, no_wrap, Holds}
use Rattle.directory.proofs.Names.{Named, Placed, names_rising, names-length, place_none, place_in_lem, select_in_lem}
use Rattle.forms.proofs.Laws.{local_sized_lem, local_rising, local_length, local_place_lem, local_select_lem, local_walk_lem}
use Rattle.segmented.specs.Segmented.{part_accepts, part_names, segmented_accepts, segmented_names, PartReadable, counted_from, place_in, select_in, walk_in}
use Rattle.segmented.proofs.Laws.{cut_part, part_inside}

module _ (span : ℕ) (xs : List ℕ) (ok : segmented_accepts span xs ≡ true) where
  pub accepted_directory : directory_accepts xs span ≡ true
  unfolding segmented_accepts
  accepted_directory = both_left _ _ ok

  pub accepted_parts : (i : ℕ) → i < stated_segments xs → part_accepts xs i ≡ true
  unfolding segmented_accepts
  accepted_parts i h = all_at (part_accepts xs) (stated_segments xs) (both_right _ _ ok) i h

  pub directory_of : Directory xs span (stated_segments xs)
  directory_of = accepts_directory xs span accepted_directory

  pub entry_readable : {e : Segment} (i : ℕ) → i < stated_segments xs → e ≡ entry_of xs i → PartReadable e xs
  unfolding entry_of part_accepts
  entry_readable i h q =
      let s = local_sized_lem (tag_at xs i) (part_of xs i) (span_at xs i) (count_at xs i) (accepted_parts i h) in
      record { inside = part_inside xs span i accepted_directory h q; sized = rw q (rw (payload-length directory_of i h) at s) }

  module _ (bytes : Bytes xs) where
    pub part_bytes : (i : ℕ) → Bytes (part_of xs i)
    unfolding part_of
    part_bytes i = bytes_front (drop (offset_at xs i) xs) (length_at xs i) (bytes_tail xs (offset_at xs i) bytes)

    -- T3 of the parts, and of the whole
    pub parts_named : Named xs (part_names xs)
    unfolding part_names part_accepts
    parts_named = record {
      rising = λ i h. local_rising (tag_at xs i) (part_of xs i) (span_at xs i) (count_at xs i) (accepted_parts i h) (part_bytes i);
      sized = λ i h. local_length (tag_at xs i) (part_of xs i) (span_at xs i) (count_at xs i) (accepted_parts i h) (part_bytes i);
    }

    pub segmented_rising : Rising 0 span (segmented_names xs)
    unfolding segmented_names
    segmented_rising = names_rising directory_of parts_named

    pub segmented_length : length (segmented_names xs) ≡ stated_count xs
    unfolding segmented_names
    segmented_length = names-length directory_of parts_named

    -- T4, a segment's own answers
    segment_place : {e : Segment} (i : ℕ) → i < stated_segments xs → e ≡ entry_of xs i → (p : ℕ) → place_in e xs p ≡ counted_from (ordinal_at xs i) (place_of (part_names xs i) (p - start_at xs i))
    unfolding place_in entry_of part_names part_accepts
    segment_place i h q p =
        rw (cut_part xs i q, q, local_place_lem (tag_at xs i) (part_of xs i) (span_at xs i) (count_at xs i) (accepted_parts i h) (part_bytes i) (p - start_at xs i))

    pub segment_walk : {e : Segment} (i : ℕ) → i < stated_segments xs → e ≡ entry_of xs i → (skip room : ℕ) → walk_in e xs skip room ≡ moved (start_at xs i) (walk_of (part_names xs i) skip room)
    unfolding walk_in entry_of part_names part_accepts
    segment_walk i h q skip room =
        rw (cut_part xs i q, q) (local_walk_lem (tag_at xs i) (part_of xs i) (span_at xs i) (count_at xs i) (accepted_parts i h) (part_bytes i) skip (start_at xs i) room)

    few_rows : stated_count xs ≤ 65535
    few_rows = directory_of.rows.most

    -- ---- place, as the code finds it: f segments start at p or before
    module _ {f n : ℕ} (p : ℕ) (size : n ≡ stated_segments xs) (found : f ≡ starts_to xs n p) where
      pub no_segment : f ≡ 0 → record { below = 0; present = false } ≡ place_of (segmented_names xs) p
      unfolding place_of segmented_names
      no_segment z = let w = place_none directory_of parts_named p size found z in rw (w.0, w.1)

      -- the last of them is segment i
      pub placed : {i : ℕ} → 1 ≤ f → i ≡ f - 1 → Placed xs (part_names xs) p i
      placed z j = rw j (place_in_lem directory_of parts_named p size found z)

      -- behind the segment's span all its rows are before p
      pub segment_passed : {e : Segment} {i : ℕ} → 1 ≤ f → i ≡ f - 1 → e ≡ entry_of xs i → e.span ≤ p - e.start → record { below = e.ordinal + e.count; present = false } ≡ place_of (segmented_names xs) p
      unfolding place_of segmented_names entry_of
      segment_passed {i = i} z j q h =
          let w = placed z j in
          let rises = parts_named.rising i w.inside in
          let past : span_at xs i ≤ p - start_at xs i = rw q at h in
          let whole : below (part_names xs i) (p - start_at xs i) ≡ count_at xs i = below_whole rises (p - start_at xs i) past ∙ parts_named.sized i w.inside in
          let none : has (part_names xs i) (p - start_at xs i) ≡ false = has_outside rises (p - start_at xs i) (λ u. omega (arith, u.1)) in
          rw (q, w.rows, w.present, whole, none)

      pub segment_answers : {e : Segment} {r : Place} {i : ℕ} → 1 ≤ f → i ≡ f - 1 → e ≡ entry_of xs i → r ≡ place_in e xs p → r ≡ place_of (segmented_names xs) p
      unfolding place_of segmented_names counted_from
      segment_answers {i = i} z j q e =
          let w = placed z j in
          let most : below (names_of xs (part_names xs)) p ≤ stated_count xs = omega (arith, below_most (names_of xs (part_names xs)) p, names-length directory_of parts_named) in
          let small : ordinal_at xs i + below (part_names xs i) (p - start_at xs i) < 4294967296 = omega (arith, few_rows, w.rows) in
          e ∙ segment_place i w.inside q p ∙ rw (mod-eq_of_lt small, w.rows, w.present)

    -- ---- select, as the code finds it: f segments state at most k rows before them
    module _ {f n : ℕ} (k : ℕ) (size : n ≡ stated_segments xs) (found : f ≡ ordinals_to xs n k) (h : k < stated_count xs) where
      pub some_segment : 0 < f
      some_segment = (select_in_lem directory_of parts_named k size found h).0

      pub holding : Holds xs (stated_segments xs) k (f - 1)
      holding = (select_in_lem directory_of parts_named k size found h).1

      pub segment_selects : {e : Segment} {r : ℕ} → span < 4294967296 → e ≡ entry_of xs (f - 1) → r ≡ select_in e xs k → r ≡ get_or (segmented_names xs) k 0
      unfolding segmented_names select_in entry_of part_names part_accepts
      segment_selects small q e =
          let i = f - 1 in
          let w = holding in
          let x = get_or (part_names xs i) (k - ordinal_at xs i) 0 in
          let in_list : k - ordinal_at xs i < length (part_names xs i) = rw (parts_named.sized i w.inside) w.within in
          let fits : start_at xs i + x < 4294967296 = no_wrap directory_of (omega arith) i x w.inside (rising_below (parts_named.rising i w.inside) (k - ordinal_at xs i) in_list) in
          e ∙ rw (cut_part xs i q, q, local_select_lem (tag_at xs i) (part_of xs i) (span_at xs i) (count_at xs i) (accepted_parts i w.inside) (part_bytes i) (k - ordinal_at xs i) w.within) (mod-eq_of_lt fits)
          ∙ sym (select_in_lem directory_of parts_named k size found h).2
