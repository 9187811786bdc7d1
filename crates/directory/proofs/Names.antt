-- What an accepted directory names, over what its segments name: a rising list in pieces, and place and select as one segment's.
-- Assumes nothing.
use mathlib.Core.Path.{◌≡◌, sym, ◌∙◌}
use mathlib.Core.Bool.{false}
use mathlib.Core.List.{List}
use Prim.Native.Nat.{ℕ, zero, suc, ◌+◌, ◌-◌, ◌<◌, ◌≤◌}
use native.Mathlib.Nat.{add-zero}
use native.Mathlib.Omega.{arith}
use lib.ListN.{length, get_or}
use Rattle.model.specs.Tests.{flat}
use Rattle.model.specs.Lists.{Rising, below, has}
use Rattle.model.proofs.Sums.{flat-total}
use Rattle.model.proofs.Append.{length_shift, get_or-shift, shift_rising, below_shifted, has_shifted}
use Rattle.model.proofs.Pieces.{Pieces, pieces_rising, pieces_none, pieces_place, pieces_select}
use Rattle.search.specs.Search.{up_to, Cut}
use Rattle.search.proofs.Laws.{at_most, above}
use Rattle.directory.specs.Directory.{stated_count, stated_segments, start_at, span_at, count_at, ordinal_at, rows_before, starts_to, ordinals_to, piece_of, names_of}
use Rattle.directory.proofs.Parts.{Directory}
use Rattle.directory.proofs.Facts.{segments_apart, starts_cut, Holds, ordinal_holds}

-- ---- what is asked of the segments: each names positions below its span, as many as it states

pub record Named (xs : List ℕ) (g : ℕ → List ℕ) : Type 0 where
  pub rising : (i : ℕ) → i < stated_segments xs → Rising 0 (span_at xs i) (g i)
  pub sized : (i : ℕ) → i < stated_segments xs → length (g i) ≡ count_at xs i

-- the place of p is segment i's
pub record Placed (xs : List ℕ) (g : ℕ → List ℕ) (p i : ℕ) : Type 0 where
  pub inside : i < stated_segments xs
  pub from : start_at xs i ≤ p
  pub rows : below (names_of xs g) p ≡ ordinal_at xs i + below (g i) (p - start_at xs i)
  pub present : has (names_of xs g) p ≡ has (g i) (p - start_at xs i)

module _ {xs : List ℕ} {span : ℕ} (d : Directory xs span (stated_segments xs)) {g : ℕ → List ℕ} (s : Named xs g) where
  -- ---- the pieces, and the whole

  pub names-pieces : Pieces (piece_of xs g) (start_at xs) (λ (i : ℕ). start_at xs i + span_at xs i) (stated_segments xs) 0 span
  unfolding piece_of
  names-pieces = record {
    inside = λ i l. rw (add-zero (start_at xs i)) at (shift_rising (start_at xs i) (s.rising i l));
    first = λ i l. omega arith;
    wide = λ i l. omega arith;
    last = λ i l. (d.fit i l).within;
    apart = λ i j l h. segments_apart d i j l h;
  }

  pub names_rising : Rising 0 span (names_of xs g)
  unfolding names_of
  names_rising = pieces_rising (stated_segments xs) (omega arith) names-pieces

  pub piece_length : (i : ℕ) → i < stated_segments xs → length (piece_of xs g i) ≡ count_at xs i
  unfolding piece_of
  piece_length i l = length_shift (start_at xs i) (g i) ∙ s.sized i l

  -- the first i pieces
  pub front_length : (i : ℕ) → i ≤ stated_segments xs → length (flat (piece_of xs g) i) ≡ rows_before xs i
  front_length i h = flat-total (piece_of xs g) (count_at xs) i (λ j l. piece_length j (omega arith))

  pub front_ordinal : (i : ℕ) → i < stated_segments xs → length (flat (piece_of xs g) i) ≡ ordinal_at xs i
  front_ordinal i l = front_length i (omega arith) ∙ sym (d.fit i l).ordinal

  pub names-length : length (names_of xs g) ≡ stated_count xs
  unfolding names_of
  names-length = front_length (stated_segments xs) (omega arith) ∙ d.sum

  -- ---- the place of a position

  pub place_none : {f n : ℕ} (p : ℕ) → n ≡ stated_segments xs → f ≡ starts_to xs n p → f ≡ 0 → (below (names_of xs g) p ≡ 0) × (has (names_of xs g) p ≡ false)
  unfolding names_of
  place_none p q e z =
      let c = starts_cut d p in
      let w : starts_to xs (stated_segments xs) p ≡ 0 = sym (rw q at e) ∙ z in
      pieces_none (stated_segments xs) names-pieces p (λ i l. above (start_at xs) p i (c.from i (rw w (omega arith)) l))

  placed_cut : (p f : ℕ) → Cut (up_to false (start_at xs) p) (stated_segments xs) f → 0 < f → Placed xs g p (f - 1)
  unfolding names_of piece_of
  placed_cut p zero c h = absurd (omega arith)
  placed_cut p (suc i) c h =
      let e : suc i - 1 ≡ i = omega arith in
      let l : i < stated_segments xs = c.within in
      let low : start_at xs i ≤ p = at_most (start_at xs) p i (c.below i (omega arith)) in
      let w = pieces_place (stated_segments xs) names-pieces p i l low (λ j a b. above (start_at xs) p j (c.from j a b)) in
      rw e (record {
        inside = l;
        from = low;
        rows = w.0 ∙ rw (front_ordinal i l, below_shifted (start_at xs i) (g i) p low);
        present = w.1 ∙ has_shifted (start_at xs i) (g i) p low;
      })

  pub place_in_lem : {f n : ℕ} (p : ℕ) → n ≡ stated_segments xs → f ≡ starts_to xs n p → 0 < f → Placed xs g p (f - 1)
  place_in_lem p q e h = rw e (rw q (placed_cut p _ (starts_cut d p) (rw q at (rw e at h))))

  -- ---- the position of an ordinal

  pub holds_select : (k i : ℕ) → Holds xs (stated_segments xs) k i → get_or (names_of xs g) k 0 ≡ start_at xs i + get_or (g i) (k - ordinal_at xs i) 0
  unfolding names_of piece_of
  holds_select k i h =
      let e : ordinal_at xs i + (k - ordinal_at xs i) ≡ k = omega (arith, h.from) in
      let l : k - ordinal_at xs i < length (piece_of xs g i) = rw (piece_length i h.inside) h.within in
      let m : k - ordinal_at xs i < length (g i) = rw (s.sized i h.inside) h.within in
      rw (front_ordinal i h.inside, e) at (pieces_select (piece_of xs g) (stated_segments xs) i (k - ordinal_at xs i) h.inside l)
      ∙ get_or-shift (start_at xs i) (g i) (k - ordinal_at xs i) m

  pub select_in_lem : {f n : ℕ} (k : ℕ) → n ≡ stated_segments xs → f ≡ ordinals_to xs n k → k < stated_count xs
      → (0 < f) × (Holds xs (stated_segments xs) k (f - 1)) × (get_or (names_of xs g) k 0 ≡ start_at xs (f - 1) + get_or (g (f - 1)) (k - ordinal_at xs (f - 1)) 0)
  select_in_lem {f} k q e h =
      let w = ordinal_holds d k h (rw q at e) in
      (w.0, w.1, holds_select k (f - 1) w.1)
