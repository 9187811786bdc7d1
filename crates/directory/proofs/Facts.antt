-- What an accepted directory says of its segments: starts and ordinals rise, payloads follow one another inside the body, and nothing passes 32 bits.
-- Assumes nothing.
use mathlib.Core.Path.{◌≡◌}
use mathlib.Core.Bool.{false}
use mathlib.Core.Logic.{⊎_elim}
use mathlib.Core.List.{List}
use Prim.Native.Nat.{ℕ, zero, suc, ◌+◌, ◌-◌, ◌<◌, ◌≤◌}
use native.Mathlib.Nat.{eq-or-lt_of_le}
use native.Mathlib.Omega.{arith}
use lib.ListN.{length, length-take, length-drop}
use Rattle.model.specs.Tests.{total}
use Rattle.model.proofs.Sums.{total-le, total_within}
use Rattle.model.proofs.Windows.{windows_apart, windows_level}
use Rattle.search.specs.Search.{up_to, Cut}
use Rattle.search.proofs.Laws.{falls_level, at_most, above, find_cut}
use Rattle.directory.specs.Directory.{stated_count, start_at, span_at, count_at, ordinal_at, offset_at, length_at, part_of, rows_before, end_before, starts_to, ordinals_to}
use Rattle.directory.proofs.Parts.{Directory}

module _ {xs : List ℕ} {span n : ℕ} (d : Directory xs span n) where
  -- ---- starts

  next_apart : (i : ℕ) → suc i < n → start_at xs i + span_at xs i ≤ start_at xs (suc i)
  unfolding end_before
  next_apart i h = (d.fit (suc i) h).apart

  pub segments_apart : (i j : ℕ) → i < j → j < n → start_at xs i + span_at xs i ≤ start_at xs j
  segments_apart = windows_apart (start_at xs) (λ (i : ℕ). start_at xs i + span_at xs i) n (λ i l. omega arith) next_apart

  pub starts_level : (i j : ℕ) → i ≤ j → j < n → start_at xs i ≤ start_at xs j
  starts_level = windows_level (start_at xs) (λ (i : ℕ). start_at xs i + span_at xs i) n (λ i l. omega arith) next_apart

  -- a position of a segment, counted from the start of the whole, fits 32 bits
  pub no_wrap : span ≤ 4294967295 → (i p : ℕ) → i < n → p < span_at xs i → start_at xs i + p < 4294967296
  no_wrap s i p h l = omega (arith, (d.fit i h).within)

  -- ---- ordinals

  pub ordinal_first : ordinal_at xs 0 ≡ 0
  unfolding total
  ordinal_first = (d.fit 0 d.some).ordinal

  pub ordinal_next : (i : ℕ) → i < n → ordinal_at xs i + count_at xs i ≡ rows_before xs (suc i)
  unfolding total
  ordinal_next i h = rw (d.fit i h).ordinal

  pub ordinals_level : (i j : ℕ) → i ≤ j → j < n → ordinal_at xs i ≤ ordinal_at xs j
  ordinals_level i j l h = rw ((d.fit i (omega arith)).ordinal, (d.fit j h).ordinal) (total-le (count_at xs) i j l)

  -- ---- payloads

  pub payload_inside : (i : ℕ) → i < n → offset_at xs i + length_at xs i ≤ length xs
  payload_inside i h = omega (arith, (d.fit i h).payload, total_within (length_at xs) i n h, d.end)

  pub payload-length : (i : ℕ) → i < n → length (part_of xs i) ≡ length_at xs i
  unfolding part_of
  payload-length i h = let w = payload_inside i h in simp (length-take, length-drop) (omega arith)

  -- ---- searching

  pub starts_cut : (p : ℕ) → Cut (up_to false (start_at xs) p) n (starts_to xs n p)
  starts_cut p = find_cut _ n (falls_level (start_at xs) p n starts_level)

  pub ordinals_cut : (k : ℕ) → Cut (up_to false (ordinal_at xs) k) n (ordinals_to xs n k)
  ordinals_cut k = find_cut _ n (falls_level (ordinal_at xs) k n ordinals_level)

-- segment i holds ordinal k
pub record Holds (xs : List ℕ) (n k i : ℕ) : Type 0 where
  pub inside : i < n
  pub from : ordinal_at xs i ≤ k
  pub within : k - ordinal_at xs i < count_at xs i

module _ {xs : List ℕ} {span n : ℕ} (d : Directory xs span n) (k : ℕ) (h : k < stated_count xs) where
  holds_cut : (f : ℕ) → Cut (up_to false (ordinal_at xs) k) n f → (0 < f) × Holds xs n k (f - 1)
  holds_cut zero c = absurd (omega (arith, above (ordinal_at xs) k _ (c.from 0 (omega arith) d.some), ordinal_first d))
  holds_cut (suc i) c =
      let e : suc i - 1 ≡ i = omega arith in
      let l : i < n = c.within in
      let low : ordinal_at xs i ≤ k = at_most (ordinal_at xs) k i (c.below i (omega arith)) in
      let high : k < rows_before xs (suc i) =
      ⊎_elim (λ (q : suc i ≡ n). rw q (rw d.sum h)) (λ (m : suc i < n). rw (← (d.fit (suc i) m).ordinal) (above (ordinal_at xs) k _ (c.from (suc i) (omega arith) m))) (eq-or-lt_of_le c.within) in
      (omega arith, rw e (record { inside = l; from = low; within = omega (arith, ordinal_next d i l) }))

  -- the search by ordinal finds the segment that holds it
  pub ordinal_holds : {f : ℕ} → f ≡ ordinals_to xs n k → (0 < f) × Holds xs n k (f - 1)
  ordinal_holds e = rw e (holds_cut (ordinals_to xs n k) (ordinals_cut d k))
