-- T2 of all nine tags: an accepted body, from any writer, holds the list that it names, as `Layouts` has the form.
-- Assumes nothing.
use mathlib.Core.Path.{◌≡◌, refl, sym, ap, ◌∙◌}
use mathlib.Core.Bool.{Bool, true, false}
use mathlib.Core.Logic.{⊎_elim, inl, inr}
use mathlib.Core.List.{List, ◌++◌}
use Prim.Native.Nat.{ℕ, ◌+◌, ◌-◌, ◌<◌, ◌≤◌}
use native.Mathlib.Omega.{arith}
use lib.Dec.{eqb, leb}
use lib.ListN.{length, get_or, drop}
use borrow.Author.Tests.{leb-false}
use Rattle.fields.specs.Le.{le, digits, Bytes}
use Rattle.model.specs.Tests.{both, pick}
use Rattle.model.specs.Lists.{has, shift, runs_of, positions_of}
use Rattle.model.proofs.Tests.{either, both_left, both_right, pick_true}
use Rattle.model.proofs.Rising.{rising_wider}
use Rattle.model.proofs.Append.{shift_rising, shift_zero, length_shift}
use Rattle.model.proofs.Positions.{positions_shift}
use Rattle.lists.specs.Lists.{list_names, list_accepts, list_layout}
use Rattle.runs.specs.Runs.{run_count, runs_names, runs_accepts, runs_layout}
use Rattle.bitmap.specs.Body.{bitmap_layout}
use Rattle.missing.specs.Missing.{missing_layout}
use Rattle.forms.specs.Forms.{by_tag, local_accepts, local_names, local_layout}
use Rattle.forms.specs.RowSets.{RowSet}
use Rattle.forms.proofs.Bounds.{dense_all, missing_span, items_hold, starts_hold}
use Rattle.single.specs.Single.{fit, view_of, bitmap_view, trimmed_missing_view, named_in, ends_ok, single_names}
use Rattle.single.specs.declared.View.{View}
use Rattle.single.specs.Layout.{first_of, extent_of, plain_layout, trimmed_layout, single_layout}
use Rattle.single.proofs.Laid.{single_layout_lem, first_is, extent_is}
use Rattle.single.proofs.Named.{Parts, single_parts, parts_count, named_rising, named-length, whole_length}
use Rattle.segmented.proofs.LaidBack.{segment_in, body_laid, rows_cut, cut_fits}
use Rattle.directory.specs.Directory.{stated_segments}
use Rattle.bodies.specs.Bodies.{accepts, names}
use Rattle.bodies.proofs.Laws.{names_nine, names_other, nine, other, names_few}
use Rattle.bodies.proofs.Named.{names_rising, names_some}
use Rattle.demands.specs.Layouts.{Dense, Items, Runs, Trimmed, Bitmap, Missing, TrimmedMissing, Segmented}

module _ (tag span : ℕ) (xs : List ℕ) (bytes : Bytes xs) (ok : accepts tag span xs ≡ true) where
  row_set : RowSet span (names tag span xs)
  row_set = record { rising = names_rising tag span xs ok bytes; some = names_some tag span xs ok bytes; most = names_few tag span xs ok bytes }

  module _ (n : tag ≡ 9 → ⊥) where
    parts : Parts (view_of tag span xs) span xs
    parts = single_parts tag span xs (other tag span xs ok n)

    laid : xs ≡ single_layout tag (view_of tag span xs).trimmed span (names tag span xs)
    laid =
        single_layout_lem tag span xs (other tag span xs ok n) bytes
        ∙ ap (λ (rows : List ℕ). single_layout tag (view_of tag span xs).trimmed span rows) (sym (names_other tag span xs n))

    -- what is named, by the view
    named_by : names tag span xs ≡ shift (view_of tag span xs).base (named_in (view_of tag span xs) xs)
    unfolding single_names
    named_by = names_other tag span xs n

    count_by : length (names tag span xs) ≡ (view_of tag span xs).count
    count_by = ap length named_by ∙ whole_length (view_of tag span xs) span xs parts bytes

not_nine : (tag : ℕ) → tag < 9 → tag ≡ 9 → ⊥
not_nine tag l e = omega arith

module _ (span : ℕ) (xs : List ℕ) (bytes : Bytes xs) where
  pub dense_back : accepts 1 span xs ≡ true → Dense span (names 1 span xs) xs
  unfolding single_layout plain_layout local_layout by_tag view_of pick
  dense_back ok =
      let n = not_nine 1 (omega arith) in
      let whole : length (names 1 span xs) ≡ span = count_by 1 span xs bytes ok n ∙ dense_all xs span (fit span) (parts 1 span xs bytes ok n).local in
      let held = row_set 1 span xs bytes ok in
      record { held = held; whole = whole; narrow = omega (arith, held.most); bytes = laid 1 span xs bytes ok n }

  -- a list and runs over the width w of a field, at the tag that has it
  items_back : (tag w n : ℕ) → accepts tag span xs ≡ true → names tag span xs ≡ shift 0 (list_names w xs n) → list_accepts w xs span n ≡ true → xs ≡ list_layout w (names tag span xs)
      → Items w span (names tag span xs) xs
  items_back tag w n ok named local layout =
      record { held = row_set tag span xs bytes ok; fields = rw (named, shift_zero (list_names w xs n)) (items_hold xs span n w local bytes); bytes = layout }

  runs_back : (tag w : ℕ) → accepts tag span xs ≡ true → names tag span xs ≡ shift 0 (runs_names w (drop 4 xs) (run_count w (drop 4 xs))) → runs_accepts w (drop 4 xs) span (le 2 xs 0) ≡ true
      → xs ≡ digits 2 (length (names tag span xs)) ++ digits 2 (length (runs_of (names tag span xs))) ++ runs_layout w (names tag span xs) → Runs w span (names tag span xs) xs
  runs_back tag w ok named local layout =
      record {
        held = row_set tag span xs bytes ok;
        fields = rw (named, shift_zero (runs_names w (drop 4 xs) (run_count w (drop 4 xs)))) (starts_hold (drop 4 xs) span (le 2 xs 0) w local);
        bytes = layout;
      }

  pub list32_back : accepts 2 span xs ≡ true → Items 4 span (names 2 span xs) xs
  unfolding single_layout plain_layout local_layout local_accepts local_names named_in by_tag view_of pick
  list32_back ok = let n = not_nine 2 (omega arith) in items_back 2 4 _ ok (named_by 2 span xs bytes ok n) (parts 2 span xs bytes ok n).local (laid 2 span xs bytes ok n)

  pub list16_back : accepts 3 span xs ≡ true → Items 2 span (names 3 span xs) xs
  unfolding single_layout plain_layout local_layout local_accepts local_names named_in by_tag view_of pick
  list16_back ok = let n = not_nine 3 (omega arith) in items_back 3 2 _ ok (named_by 3 span xs bytes ok n) (parts 3 span xs bytes ok n).local (laid 3 span xs bytes ok n)

  pub runs16_back : accepts 4 span xs ≡ true → Runs 2 span (names 4 span xs) xs
  unfolding single_layout plain_layout local_layout local_accepts local_names named_in by_tag view_of pick
  runs16_back ok = let n = not_nine 4 (omega arith) in runs_back 4 2 ok (named_by 4 span xs bytes ok n) (parts 4 span xs bytes ok n).local (laid 4 span xs bytes ok n)

  pub runs32_back : accepts 5 span xs ≡ true → Runs 4 span (names 5 span xs) xs
  unfolding single_layout plain_layout local_layout local_accepts local_names named_in by_tag view_of pick
  runs32_back ok = let n = not_nine 5 (omega arith) in runs_back 5 4 ok (named_by 5 span xs bytes ok n) (parts 5 span xs bytes ok n).local (laid 5 span xs bytes ok n)

  pub missing_back : accepts 7 span xs ≡ true → Missing span (names 7 span xs) xs
  unfolding single_layout plain_layout local_layout by_tag view_of pick
  missing_back ok =
      let n = not_nine 7 (omega arith) in
      record { held = row_set 7 span xs bytes ok; narrow = missing_span (drop 4 xs) span (le 2 xs 0) (parts 7 span xs bytes ok n).local; bytes = laid 7 span xs bytes ok n }

-- ---- trimmed forms: base and local span are those of the list, as both ends are present

module _ {span base extent : ℕ} {own rows : List ℕ} (t : Trimmed span base extent own rows) where
  first : first_of rows ≡ base
  first = rw t.rows_are (first_is t.held.rising t.low t.high base)

  pub extends : extent_of rows ≡ extent
  extends = rw t.rows_are (extent_is t.held.rising t.low t.high base)

  from-base : positions_of (first_of rows) rows ≡ own
  from-base = rw first (rw t.rows_are (positions_shift base own))

  size : length rows ≡ length own
  size = rw t.rows_are (length_shift base own)

  pub bitmap_bytes : trimmed_layout 6 rows ≡ digits 2 (length own) ++ digits 2 1 ++ digits 4 base ++ digits 4 extent ++ bitmap_layout extent own
  unfolding trimmed_layout local_layout by_tag pick
  bitmap_bytes = rw (from-base, first, extends, size)

  pub missing_bytes : trimmed_layout 8 rows ≡ digits 4 base ++ digits 2 extent ++ digits 2 (length own) ++ missing_layout extent own
  unfolding trimmed_layout local_layout by_tag pick
  missing_bytes = rw (from-base, first, extends, size)

  pub in_span : RowSet span rows
  in_span =
      let low : base + 0 ≡ base = omega arith in
      record {
        rising = rw t.rows_are (rising_wider (omega arith) t.inside (shift_rising base t.held.rising));
        some = omega (arith, size, t.held.some);
        most = omega (arith, size, t.held.most);
      }

-- a bitmap's layout by its flag
module _ {t : Bool} (span : ℕ) (rows : List ℕ) where
  by_flag : t ≡ true → single_layout 6 t span rows ≡ trimmed_layout 6 rows
  unfolding single_layout
  by_flag f = pick_true _ _ f

  by_no_flag : t ≡ false → single_layout 6 t span rows ≡ digits 2 (length rows) ++ digits 2 0 ++ bitmap_layout span rows
  unfolding single_layout plain_layout local_layout by_tag pick
  by_no_flag f = rw f

-- an accepted trimmed form is such a one
module _ (tag span : ℕ) (xs : List ℕ) (bytes : Bytes xs) (ok : accepts tag span xs ≡ true) (n : tag ≡ 9 → ⊥) where
  abbrev v : View
  v = view_of tag span xs

  is_trimmed : v.trimmed ≡ true → Trimmed span v.base v.span (named_in v xs) (names tag span xs)
  unfolding ends_ok
  is_trimmed f =
      let p = parts tag span xs bytes ok n in
      let c = parts_count v span xs p in
      let size = named-length v span xs p bytes in
      let ends : both (has (named_in v xs) 0) (has (named_in v xs) (v.span - 1)) ≡ true = sym (pick_true _ _ f) ∙ p.ends in
      record {
        inside = p.inside;
        held = record { rising = named_rising v span xs p bytes; some = omega (arith, c.some); most = omega (arith, c.most) };
        low = both_left _ _ ends;
        high = both_right _ _ ends;
        rows_are = named_by tag span xs bytes ok n;
      }

module _ (span : ℕ) (xs : List ℕ) (bytes : Bytes xs) where
  pub trimmed_missing_back : accepts 8 span xs ≡ true → TrimmedMissing span (names 8 span xs) xs
  unfolding view_of trimmed_missing_view single_layout pick
  trimmed_missing_back ok =
      let n = not_nine 8 (omega arith) in
      let t = is_trimmed 8 span xs bytes ok n refl in
      record {
        base = le 4 xs 0;
        extent = le 2 xs 4;
        own = named_in (trimmed_missing_view xs) xs;
        trimmed = t;
        narrow = missing_span (drop 8 xs) (le 2 xs 4) (le 2 xs 6) (parts 8 span xs bytes ok n).local;
        bytes = laid 8 span xs bytes ok n ∙ missing_bytes t;
      }

  -- the flag says which of the two
  pub bitmap_flag : accepts 6 span xs ≡ true → (view_of 6 span xs).trimmed ≡ eqb (get_or xs 2 0) 1
  unfolding view_of bitmap_view pick
  bitmap_flag ok =
      let p = parts 6 span xs bytes ok (not_nine 6 (omega arith)) in
      ⊎_elim
      (λ (e : eqb (get_or xs 2 0) 1 ≡ true).
      ⊎_elim
      (λ (f : leb 12 (length xs) ≡ true). rw (e, f))
      (λ (f : leb 12 (length xs) ≡ false). let room : 12 ≤ length xs = rw (e, f) at p.room in absurd (omega (arith, leb-false 12 (length xs) f)))
      (either (leb 12 (length xs))))
      (λ (e : eqb (get_or xs 2 0) 1 ≡ false). rw e)
      (either (eqb (get_or xs 2 0) 1))

  pub bitmap_back : accepts 6 span xs ≡ true → Bitmap span (names 6 span xs) xs
  bitmap_back ok =
      let n = not_nine 6 (omega arith) in
      ⊎_elim
      (λ f. inr (record {
        base = (view_of 6 span xs).base;
        extent = (view_of 6 span xs).span;
        own = named_in (view_of 6 span xs) xs;
        trimmed = is_trimmed 6 span xs bytes ok n f;
        bytes = laid 6 span xs bytes ok n ∙ by_flag span (names 6 span xs) f ∙ bitmap_bytes (is_trimmed 6 span xs bytes ok n f);
      }))
      (λ f. inl (record { held = row_set 6 span xs bytes ok; bytes = laid 6 span xs bytes ok n ∙ by_no_flag span (names 6 span xs) f }))
      (either (view_of 6 span xs).trimmed)

  pub segmented_back : accepts 9 span xs ≡ true → Segmented span (names 9 span xs) xs
  segmented_back ok =
      let s = nine 9 span xs ok refl in
      record { n = stated_segments xs; at = segment_in xs; fits = cut_fits span xs s bytes; rows_are = names_nine 9 span xs refl ∙ rows_cut span xs s bytes; bytes = body_laid span xs s bytes }
