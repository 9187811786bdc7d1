-- An accepted directory taken apart: the record by which readers know it, and what follows from it for each segment.
-- Assumes nothing.
use mathlib.Core.Path.{◌≡◌, refl}
use mathlib.Core.Bool.{Bool, true, false, ◌&&◌}
use mathlib.Core.List.{List}
use Prim.Native.Nat.{ℕ, ◌+◌, ◌<◌, ◌≤◌}
use native.Mathlib.Omega.{arith}
use lib.ListN.{length}
use borrow.Author.Tests.{leb-true, eqb-true, le-leb, eq-eqb}
use Rattle.model.specs.Lists.{counted}
use Rattle.model.proofs.Tests.{refuse, both_true, both_left, both_right, all_at, all_from}
use Rattle.model.proofs.Counted.{both_pass, and_both, Count, counted_right, counted_count}
use Rattle.directory.specs.Directory.{stated_count, stated_segments, start_at, span_at, count_at, ordinal_at, offset_at, tag_at, zero_at, entry_of, rows_before, bytes_before, directory_size, end_before, is_local, fits, segment_fits, segments_fit, directory_accepts}

-- ---- the record

-- segment i of n
pub record Fit (xs : List ℕ) (span n i : ℕ) : Type 0 where
  pub apart : end_before xs i ≤ start_at xs i
  pub within : start_at xs i + span_at xs i ≤ span
  pub rows : Count (span_at xs i) (count_at xs i)
  pub local : is_local (tag_at xs i) ≡ true
  pub blank : zero_at xs i ≡ 0
  pub ordinal : ordinal_at xs i ≡ rows_before xs i
  pub payload : offset_at xs i ≡ directory_size n + bytes_before xs i

-- a directory of n segments
pub record Directory (xs : List ℕ) (span n : ℕ) : Type 0 where
  pub some : 1 ≤ n
  pub room : directory_size n ≤ length xs
  pub rows : Count span (stated_count xs)
  pub fit : (i : ℕ) → i < n → Fit xs span n i
  pub sum : rows_before xs n ≡ stated_count xs
  pub end : directory_size n + bytes_before xs n ≡ length xs

module _ (xs : List ℕ) (span : ℕ) where
  fits-fit : (n i : ℕ) → segment_fits xs span n i ≡ true → Fit xs span n i
  unfolding segment_fits fits entry_of
  fits-fit n i e =
      let inside = both_left _ _ e in
      let formed = both_left _ _ (both_right _ _ e) in
      let stated = both_right _ _ (both_right _ _ e) in
      record {
        apart = leb-true _ _ (both_left _ _ inside);
        within = leb-true _ _ (both_right _ _ inside);
        rows = counted_count _ _ (both_left _ _ formed);
        local = both_left _ _ (both_right _ _ formed);
        blank = eqb-true _ _ (both_right _ _ (both_right _ _ formed));
        ordinal = eqb-true _ _ (both_left _ _ stated);
        payload = eqb-true _ _ (both_right _ _ stated);
      }

  fit-fits : (n i : ℕ) → Fit xs span n i → segment_fits xs span n i ≡ true
  unfolding segment_fits fits entry_of
  fit-fits n i f =
      both_true _ _ (both_true _ _ (le-leb _ _ f.apart) (le-leb _ _ f.within))
      (both_true _ _ (both_true _ _ (counted_right _ _ f.rows) (both_true _ _ f.local (eq-eqb _ _ f.blank)))
      (both_true _ _ (eq-eqb _ _ f.ordinal) (eq-eqb _ _ f.payload)))

  -- the law by which readers take an accepted directory apart
  pub accepts_directory : directory_accepts xs span ≡ true → Directory xs span (stated_segments xs)
  unfolding directory_accepts segments_fit
  accepts_directory e =
      let e₁ = both_right _ _ e in
      let e₂ = both_right _ _ e₁ in
      let e₃ = both_right _ _ e₂ in
      let e₄ = both_right _ _ e₃ in
      let e₅ = both_right _ _ e₄ in
      record {
        some = leb-true _ _ (both_left _ _ e₁);
        room = leb-true _ _ (both_left _ _ e₂);
        rows = counted_count _ _ (both_left _ _ e₃);
        fit = λ i l. fits-fit (stated_segments xs) i (all_at _ _ (both_left _ _ e₄) i l);
        sum = eqb-true _ _ (both_left _ _ e₅);
        end = eqb-true _ _ (both_right _ _ e₅);
      }

  -- and back, for what a writer has written
  pub directory_accepts_lem : Directory xs span (stated_segments xs) → directory_accepts xs span ≡ true
  unfolding directory_accepts segments_fit
  directory_accepts_lem d =
      both_true _ _ (le-leb 4 (length xs) (omega (arith, d.room)))
      (both_true _ _ (le-leb _ _ d.some)
      (both_true _ _ (le-leb _ _ d.room)
      (both_true _ _ (counted_right _ _ d.rows)
      (both_true _ _ (all_from _ _ (λ i l. fit-fits (stated_segments xs) i (d.fit i l)))
      (both_true _ _ (eq-eqb _ _ d.sum) (eq-eqb _ _ d.end))))))

  -- ---- the answers of the check

  pub check_short : length xs < 4 → false ≡ directory_accepts xs span
  check_short l = refuse _ (λ e. omega (arith, (accepts_directory e).room))

  pub check_none : (n : ℕ) → n ≡ stated_segments xs → n < 1 → false ≡ directory_accepts xs span
  check_none n q z = refuse _ (λ e. omega (arith, (accepts_directory e).some))

  pub check_room : (n : ℕ) → n ≡ stated_segments xs → length xs < directory_size n → false ≡ directory_accepts xs span
  check_room n q l = refuse _ (λ e. omega (arith, (accepts_directory e).room))

  pub check_segments : {t r : Bool} {n count : ℕ} → n ≡ stated_segments xs → 1 ≤ n → directory_size n ≤ length xs → t ≡ counted span count → count ≡ stated_count xs
      → r ≡ segments_fit xs span n → (t && r) ≡ directory_accepts xs span
  unfolding directory_accepts
  check_segments {t} {r} {n} q one l c m f =
      let four : 4 ≤ length xs = omega arith in
      rw (and_both, c, m, f, q) (both_pass (le-leb 4 _ four) (both_pass (le-leb 1 _ (rw q at one)) (both_pass (le-leb _ _ (rw q at l)) refl)))
