-- The laws of the list form, over the width w. T1: a list that fits is laid out, accepted and read back. T2: an accepted body is the
-- layout of what it names. T3: what it names rises below the span and has the count. T4: place and select are the list's; the walk's contract says it of the list already.
-- Assumes nothing.
use Rattle.std.proofs.Common.{◌≡◌, ℕ, ◌*◌, ◌^◌, ◌<◌, ◌≤◌, true, List, length, get_or, sym, ◌∙◌, mod-eq_of_lt, arith, take_all, ext_get_or, eq-eqb, eqb-true}
use Rattle.fields.specs.Le.{Bytes}
use Rattle.model.specs.Tests.{tabulate}
use Rattle.model.specs.Lists.{Rising, place_of}
use Rattle.model.proofs.Tests.{both_true, both_left, both_right, length-tabulate, get_or-tabulate}
use Rattle.model.proofs.Rising.{rising_room}
use Rattle.lists.specs.Lists.{item, rises_below, list_layout, list_accepts, list_names, list_place}
use Rattle.model.proofs.Counted.{Count, counted_right, counted_count}
use Rattle.lists.proofs.Climbing.{rises_rising, rising_rises}
use Rattle.lists.proofs.Places.{placed}
use Rattle.lists.proofs.Bytes.{length_layout, layout_item, layout_read}

-- ---- T1

module _ (w : ℕ) (xs : List ℕ) (small : (i : ℕ) → i < length xs → get_or xs i 0 < 256 ^ w) where
  kept : (i : ℕ) → i < length xs → item w (list_layout w xs) i ≡ get_or xs i 0
  kept i l = layout_item w xs i l ∙ mod-eq_of_lt (small i l)

  pub layout_names : list_names w (list_layout w xs) (length xs) ≡ xs
  unfolding list_names
  layout_names =
      let f = item w (list_layout w xs) in
      let size = length-tabulate f (length xs) in
      ext_get_or 0 (tabulate f (length xs)) xs size (λ i l. get_or-tabulate f (length xs) i 0 (omega arith) ∙ kept i (omega arith))

  pub layout_rises : {span : ℕ} → Rising 0 span xs → rises_below (item w (list_layout w xs)) span (length xs) ≡ true
  layout_rises {span} r = rising_rises (item w (list_layout w xs)) span r kept

  pub layout_accepted : {span : ℕ} → Rising 0 span xs → 1 ≤ length xs → length xs ≤ 65535 → list_accepts w (list_layout w xs) span (length xs) ≡ true
  unfolding list_accepts
  layout_accepted {span} r some most =
      let room = rising_room (omega arith) r in
      both_true _ _ (eq-eqb _ _ (length_layout w xs))
      (both_true _ _ (counted_right _ _ (record { some = some; within = omega arith; most = most })) (layout_rises r))

-- ---- names, on any bytes

pub names-length : (w : ℕ) (body : List ℕ) (n : ℕ) → length (list_names w body n) ≡ n
unfolding list_names
names-length w body n = length-tabulate (item w body) n

pub names_at : (w : ℕ) (body : List ℕ) (n k : ℕ) → k < n → get_or (list_names w body n) k 0 ≡ item w body k
unfolding list_names
names_at w body n k h = get_or-tabulate (item w body) n k 0 h

pub names_layout : (w : ℕ) (body : List ℕ) (n : ℕ) → Bytes body → length body ≡ n * w → list_layout w (list_names w body n) ≡ body
unfolding list_names
names_layout w body n b e = layout_read w body b n (omega arith) ∙ take_all (n * w) body (omega arith)

pub names_rising : (w : ℕ) (body : List ℕ) (span n : ℕ) → rises_below (item w body) span n ≡ true → Rising 0 span (list_names w body n)
unfolding list_names
names_rising w body span n ok = rises_rising (item w body) span n ok

pub names_place : (w : ℕ) (body : List ℕ) (n : ℕ) {a b : ℕ} → Rising a b (list_names w body n) → (p : ℕ) → list_place w body n p ≡ place_of (list_names w body n) p
unfolding list_place list_names
names_place w body n r p = placed (item w body) n r p

-- ---- T2, T3 and T4, of an accepted body

module _ (w : ℕ) (body : List ℕ) (span n : ℕ) (ok : list_accepts w body span n ≡ true) where
  pub list_size : length body ≡ n * w
  unfolding list_accepts
  list_size = eqb-true _ _ (both_left _ _ ok)

  pub list_count : Count span n
  unfolding list_accepts
  list_count = counted_count _ _ (both_left _ _ (both_right _ _ ok))

  pub list_layout_lem : Bytes body → list_layout w (list_names w body n) ≡ body
  list_layout_lem b = names_layout w body n b list_size

  pub list_rising : Rising 0 span (list_names w body n)
  unfolding list_accepts
  list_rising = names_rising w body span n (both_right _ _ (both_right _ _ ok))

  pub list_place_lem : (p : ℕ) → list_place w body n p ≡ place_of (list_names w body n) p
  list_place_lem p = names_place w body n list_rising p

  pub list_select : (k : ℕ) → k < n → item w body k ≡ get_or (list_names w body n) k 0
  list_select k h = sym (names_at w body n k h)
