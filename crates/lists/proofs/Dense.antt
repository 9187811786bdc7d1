-- The dense form: every position of the span.
-- Assumes nothing.
use Rattle.std.proofs.Common.{◌≡◌, ℕ, ◌+◌, ◌<◌, ◌≤◌, true, false, List, [], ◌∷◌, length, get_or, refl, ◌∙◌, zero-add, arith, eq-eqb, eqb-true}
use Rattle.model.specs.Lists.{Rising, range, below, place_of}
use Rattle.model.proofs.Tests.{both_true, both_left, both_right}
use Rattle.model.proofs.Standing.{has_outside}
use Rattle.model.proofs.Ranges.{length-range, get_or-range, range_rising, below-range, has-range, rising_full}
use Rattle.lists.specs.Lists.{dense_accepts, dense_names}
use Rattle.model.proofs.Counted.{Count, counted_right, counted_count}

-- ---- place

pub dense_inside : (span p : ℕ) → p < span → record { below = p; present = true } ≡ place_of (range 0 span) p
unfolding place_of
dense_inside span p h =
    let b : below (range 0 span) p ≡ p = below-range 0 span p ∙ omega arith in
    rw (b, has-range 0 span p (omega arith) (omega arith))

pub dense_past : (span p : ℕ) → span ≤ p → record { below = span; present = false } ≡ place_of (range 0 span) p
unfolding place_of
dense_past span p h =
    let b : below (range 0 span) p ≡ span = below-range 0 span p ∙ omega arith in
    rw (b, has_outside (range_rising 0 span) p (λ w. omega (arith, w.1)))

-- ---- T1 to T4. Select is the ordinal itself, and place and walk are stated of the list where the functions stand

module _ {span : ℕ} {xs : List ℕ} (r : Rising 0 span xs) (whole : length xs ≡ span) where
  pub dense_accepted : 1 ≤ length xs → length xs ≤ 65535 → dense_accepts [] span (length xs) ≡ true
  unfolding dense_accepts
  dense_accepted some most =
      both_true _ _ refl (both_true _ _ (eq-eqb (length xs) span whole) (counted_right _ _ (record { some = some; within = omega arith; most = most })))

  pub dense_names_lem : dense_names (length xs) ≡ xs
  dense_names_lem = rising_full r (omega arith)

module _ (body : List ℕ) (span n : ℕ) (ok : dense_accepts body span n ≡ true) where
  pub dense_count : Count span n
  unfolding dense_accepts
  dense_count = counted_count _ _ (both_right _ _ (both_right _ _ ok))

  pub dense_whole : n ≡ span
  unfolding dense_accepts
  dense_whole = eqb-true n span (both_left _ _ (both_right _ _ ok))

  pub dense_body_lem : body ≡ []
  unfolding dense_accepts
  dense_body_lem = none_of body (eqb-true (length body) 0 (both_left _ _ ok))
    where
      none_of : (xs : List ℕ) → length xs ≡ 0 → xs ≡ []
      none_of [] e = refl
      none_of (x ∷ xs) e = absurd (omega arith)

  pub dense_rising : Rising 0 span (dense_names n)
  dense_rising = let e : 0 + n ≡ span = omega (arith, dense_whole) in rw e at (range_rising 0 n)

  pub dense_length : length (dense_names n) ≡ n
  dense_length = length-range 0 n

pub dense_select : (n k : ℕ) → k < n → get_or (dense_names n) k 0 ≡ k
dense_select n k h = get_or-range 0 n k h ∙ zero-add k
