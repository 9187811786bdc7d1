-- The laws of the form missing. T1: a list that fits is laid out, accepted and read back. T2: an accepted body is the layout of what it
-- names. T3: what it names rises below the span and has the count. T4: place, select and the walk are the list's.
-- Assumes nothing.
use mathlib.Core.Path.{◌≡◌, sym, ap, ◌∙◌}
use mathlib.Core.Bool.{true, false}
use mathlib.Core.Logic.{⊎_elim}
use mathlib.Core.List.{List}
use Prim.Native.Nat.{ℕ, ◌+◌, ◌-◌, ◌*◌, ◌^◌, ◌<◌, ◌≤◌}
use native.Mathlib.Nat.{zero-add}
use native.Mathlib.Omega.{arith}
use lib.ListN.{length, get_or, take, drop}
use borrow.Author.Tests.{eq-eqb, eqb-true, le-leb, leb-true, leb-false, lt-ltb, le-ltb}
use Rattle.fields.specs.Le.{Bytes}
use Rattle.model.specs.Lists.{Rising, complement, below, place_of, walk_of}
use Rattle.model.proofs.Tests.{both_true, both_left, both_right, order, pick_true, pick_false}
use Rattle.model.proofs.Counted.{Count, counted_right, counted_count}
use Rattle.model.proofs.Rising.{rising_room, rising_below, rising_apart}
use Rattle.model.proofs.Standing.{below_whole, has_outside}
use Rattle.model.proofs.Complement.{complement_rising, complement-length, complement-below, complement-has, complement_twice, complement_select, complement-from}
use Rattle.search.specs.Search.{up_to, allowed, Cut}
use Rattle.search.proofs.Laws.{find_cut, falls_gaps}
use Rattle.lists.specs.Lists.{item, rises_below, list_layout, list_names, list_place}
use Rattle.lists.proofs.Bytes.{length_layout}
use Rattle.lists.proofs.Laws.{layout_names, layout_rises, names-length, names_at, names_layout, names_rising, names_place}
use Rattle.missing.specs.Missing.{missing_layout, missing_accepts, missing_names, besides, missing_place, holes_before, missing_select, missing_from}

-- ---- T1

module _ {span : ℕ} {xs : List ℕ} (r : Rising 0 span xs) (narrow : span ≤ 65535) where
  holes : Rising 0 span (complement 0 span xs)
  holes = complement_rising (omega arith) r

  many : length (complement 0 span xs) ≡ span - length xs
  many = omega (arith, complement-length (omega arith) r)

  small : (i : ℕ) → i < length (complement 0 span xs) → get_or (complement 0 span xs) i 0 < 256 ^ 2
  small i l = omega (arith, rising_below holes i l)

  pub layout_accepted : 1 ≤ length xs → missing_accepts (missing_layout span xs) span (length xs) ≡ true
  unfolding missing_accepts missing_layout
  layout_accepted some =
      let hs = complement 0 span xs in
      let room = rising_room (omega arith) r in
      let size : length (list_layout 2 hs) ≡ (span - length xs) * 2 = rw (← many) (length_layout 2 hs) in
      let rises : rises_below (item 2 (list_layout 2 hs)) span (span - length xs) ≡ true = rw (← many) (layout_rises 2 hs small holes) in
      both_true _ _ (le-leb span 65535 narrow)
      (both_true _ _ (counted_right _ _ (record { some = some; within = omega arith; most = omega arith })) (both_true _ _ (eq-eqb _ _ size) rises))

  pub layout_named : missing_names (missing_layout span xs) span (span - length xs) ≡ xs
  unfolding missing_names missing_layout
  layout_named = rw (← many) (ap (complement 0 span) (layout_names 2 (complement 0 span xs) small) ∙ complement_twice (omega arith) r)

-- ---- what an accepted body has

module _ (body : List ℕ) (span n : ℕ) (ok : missing_accepts body span n ≡ true) where
  pub missing_narrow : span ≤ 65535
  unfolding missing_accepts
  missing_narrow = leb-true span 65535 (both_left _ _ ok)

  pub missing_count : Count span n
  unfolding missing_accepts
  missing_count = counted_count _ _ (both_left _ _ (both_right _ _ ok))

  pub missing_size : length body ≡ (span - n) * 2
  unfolding missing_accepts
  missing_size = eqb-true _ _ (both_left _ _ (both_right _ _ (both_right _ _ ok)))

  pub holes_rising : Rising 0 span (list_names 2 body (span - n))
  unfolding missing_accepts
  holes_rising = names_rising 2 body span (span - n) (both_right _ _ (both_right _ _ (both_right _ _ ok)))

  -- ---- T2

  pub missing_layout_lem : Bytes body → missing_layout span (missing_names body span (span - n)) ≡ body
  unfolding missing_layout missing_names
  missing_layout_lem b = rw (complement_twice (omega arith) holes_rising) (names_layout 2 body (span - n) b missing_size)

  -- ---- T3

  pub missing_rising : Rising 0 span (missing_names body span (span - n))
  unfolding missing_names
  missing_rising = complement_rising (omega arith) holes_rising

  pub missing_length : length (missing_names body span (span - n)) ≡ n
  unfolding missing_names
  missing_length = omega (arith, complement-length (omega arith) holes_rising, names-length 2 body (span - n), missing_count)

  -- ---- T4

  inside : (p : ℕ) → p < span → besides p (list_place 2 body (span - n) p) ≡ place_of (missing_names body span (span - n)) p
  unfolding besides missing_names place_of
  inside p l =
      let hs = list_names 2 body (span - n) in
      let b : p - below hs p ≡ below (complement 0 span hs) p = omega (arith, complement-below (omega arith) holes_rising p (omega arith) (omega arith)) in
      rw (names_place 2 body (span - n) holes_rising p, b, complement-has (omega arith) holes_rising p (omega arith) l)

  past : (p : ℕ) → span ≤ p → record { below = span - (span - n); present = false } ≡ place_of (missing_names body span (span - n)) p
  unfolding place_of
  past p g =
      let b : below (missing_names body span (span - n)) p ≡ span - (span - n) = below_whole missing_rising p g ∙ omega (arith, missing_length, missing_count) in
      rw (b, has_outside missing_rising p (λ w. omega (arith, w.1)))

  pub missing_place_lem : (p : ℕ) → missing_place body span (span - n) p ≡ place_of (missing_names body span (span - n)) p
  unfolding missing_place
  missing_place_lem p = ⊎_elim (λ l. pick_true _ _ (lt-ltb p span l) ∙ inside p l) (λ g. pick_false _ _ (le-ltb p span g) ∙ past p g) (order p span)

  -- the search over gaps parts the holes
  cut : (k : ℕ) → Cut (up_to true (item 2 body) k) (span - n) (holes_before body (span - n) k)
  unfolding holes_before
  cut k =
      find_cut _ (span - n)
      (falls_gaps (item 2 body) k (span - n)
      (λ i j l h.
      let s = rising_apart holes_rising i j l (omega (arith, names-length 2 body (span - n))) in
      rw (names_at 2 body (span - n) i (omega arith), names_at 2 body (span - n) j h) at s))

  module _ (k : ℕ) where
    before : (i : ℕ) → i < holes_before body (span - n) k → get_or (list_names 2 body (span - n)) i 0 ≤ 0 + k + i
    unfolding up_to allowed
    before i l =
        rw (names_at 2 body (span - n) i (omega (arith, (cut k).within)), zero-add) (leb-true (item 2 body i) (k + i) ((cut k).below i l))

    after : (i : ℕ) → holes_before body (span - n) k ≤ i → i < length (list_names 2 body (span - n)) → 0 + k + i < get_or (list_names 2 body (span - n)) i 0
    unfolding up_to allowed
    after i g l =
        let h : i < span - n = omega (arith, names-length 2 body (span - n)) in
        rw (names_at 2 body (span - n) i h, zero-add) (leb-false (item 2 body i) (k + i) ((cut k).from i g h))

    found : holes_before body (span - n) k ≤ length (list_names 2 body (span - n))
    found = omega (arith, (cut k).within, names-length 2 body (span - n))

    pub missing_select_lem : k < n → missing_select body (span - n) k ≡ get_or (missing_names body span (span - n)) k 0
    unfolding missing_select missing_names
    missing_select_lem h =
        let l : k < length (complement 0 span (list_names 2 body (span - n))) = omega (arith, complement-length (omega arith) holes_rising, names-length 2 body (span - n), missing_count) in
        sym (complement_select (omega arith) holes_rising k (holes_before body (span - n) k) l found before after ∙ rw zero-add)

    pub missing_from_lem : missing_from body span (span - n) k ≡ drop k (missing_names body span (span - n))
    unfolding missing_from missing_select missing_names
    missing_from_lem = sym (complement-from holes_rising k (holes_before body (span - n) k) found before after ∙ rw zero-add)

    pub missing_walk : (m : ℕ) → take m (missing_from body span (span - n) k) ≡ walk_of (missing_names body span (span - n)) k m
    missing_walk m = rw missing_from_lem
