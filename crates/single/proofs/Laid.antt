-- T2, of the tags 1 to 8: an accepted body is the layout of the list that it names, header and all.
-- Assumes nothing.
use Rattle.std.proofs.Common.{◌≡◌, ℕ, ◌+◌, ◌-◌, ◌*◌, ◌/◌, ◌<◌, ◌≤◌, Bool, true, false, eqb, leb, List, [], ◌++◌, length, get_or, drop, sym, refl, ap, ◌∙◌, subst, ap₂, ⊎_elim, append_assoc, eq-or-lt_of_le, mul-div_cancel, arith, length-drop, eqb-true, leb-false, leb-true}
use mathlib.Core.Bool.{false≢true}
use borrow.Author.Tests.{eqb-false}
use Rattle.fields.specs.Le.{le, digits, Bytes, width_of}
use Rattle.fields.proofs.Laws.{next_field, bytes_tail}
use Rattle.model.specs.Tests.{both, pick}
use Rattle.model.specs.Lists.{Rising, below, has, shift, runs_of, positions_of}
use Rattle.model.proofs.Tests.{either, both_left, both_right, pick_true, pick_false}
use Rattle.model.proofs.Rising.{rising_below, rising_strict}
use Rattle.model.proofs.Standing.{below_none, has_index, has_inside}
use Rattle.model.proofs.Positions.{positions_shift}
use Rattle.model.proofs.Append.{length_shift, get_or-shift, shift_zero}
use Rattle.forms.specs.Forms.{list_tag, runs_tag, by_tag, local_accepts, local_layout}
use Rattle.forms.proofs.Laws.{local_layout_lem}
use Rattle.forms.proofs.Laid.{runs_layout-length}
use Rattle.forms.proofs.Tags.{Other}
use Rattle.single.specs.Single.{view, view_of, bitmap_view, trimmed_missing_view, fields_ok, part_in, named_in, ends_ok, single_accepts, single_names}
use Rattle.single.specs.Layout.{first_of, extent_of, plain_layout, trimmed_layout, single_layout}
use Rattle.single.specs.declared.View.{View}
use Rattle.single.proofs.Laws.{tag_cases, other_view}
use Rattle.single.proofs.Named.{Parts, single_parts, named_rising, whole_length}
use Rattle.single.proofs.Widths.{list_view, list_plain, runs_view, runs_fields, runs_plain}

-- ---- the first row and the extent of a list of which both ends are present

module _ {span : ℕ} {rows : List ℕ} (r : Rising 0 span rows) (low : has rows 0 ≡ true) (high : has rows (span - 1) ≡ true) (base : ℕ) where
  some : 0 < length rows
  some = omega (arith, (has_index r 0 low).0)

  pub first_is : first_of (shift base rows) ≡ base
  unfolding first_of
  first_is =
      let z : get_or rows 0 0 ≡ 0 = rw (below_none r 0 (omega arith)) at (has_index r 0 low).1 in
      get_or-shift base rows 0 some ∙ omega arith

  last_is : get_or rows (length rows - 1) 0 ≡ span - 1
  last_is =
      let at = has_index r (span - 1) high in
      let before : below rows (span - 1) ≤ length rows - 1 = omega (arith, at.0) in
      ⊎_elim
      (λ (q : below rows (span - 1) ≡ length rows - 1). rw q at at.1)
      (λ (l : below rows (span - 1) < length rows - 1).
      absurd (omega (arith, at.1, rising_strict r (below rows (span - 1)) (length rows - 1) l (omega (arith, some)), rising_below r (length rows - 1) (omega (arith, some)))))
      (eq-or-lt_of_le before)

  pub extent_is : extent_of (shift base rows) ≡ span
  unfolding extent_of
  extent_is =
      let n : length (shift base rows) ≡ length rows = length_shift base rows in
      let inside : 0 < span = (has_inside r 0 low).1 in
      let l : get_or (shift base rows) (length rows - 1) 0 ≡ base + (span - 1) = get_or-shift base rows (length rows - 1) (omega (arith, some)) ∙ ap (λ (x : ℕ). base + x) last_is in
      rw (n, l, first_is) (omega arith)

-- ---- headers

-- the next two fields behind what stands in front
next_two : (front xs : List ℕ) (m n at : ℕ) → Bytes xs → at + m + n ≤ length xs → front ++ drop at xs ≡ front ++ digits m (le m xs at) ++ digits n (le n xs (at + m)) ++ drop (at + m + n) xs
next_two front xs m n at b h =
    let first : List ℕ = digits m (le m xs at) in
    let second : List ℕ = digits n (le n xs (at + m)) in
    ap (λ (r : List ℕ). front ++ r) (next_field m xs at b (omega arith))
    ∙ sym (append_assoc front first (drop (at + m) xs))
    ∙ ap (λ (r : List ℕ). front ++ first ++ r) (next_field n xs (at + m) b h)
    ∙ sym (append_assoc (front ++ first) second (drop (at + m + n) xs))

two_fields : (xs : List ℕ) → Bytes xs → 4 ≤ length xs → xs ≡ digits 2 (le 2 xs 0) ++ digits 2 (le 2 xs 2) ++ drop 4 xs
two_fields xs b h = next_two [] xs 2 2 0 b h

bitmap_fields : (xs : List ℕ) → Bytes xs → 12 ≤ length xs → xs ≡ digits 2 (le 2 xs 0) ++ digits 2 (le 2 xs 2) ++ digits 4 (le 4 xs 4) ++ digits 4 (le 4 xs 8) ++ drop 12 xs
bitmap_fields xs b h = two_fields xs b (omega arith) ∙ next_two (digits 2 (le 2 xs 0) ++ digits 2 (le 2 xs 2)) xs 4 4 4 b h

missing_fields : (xs : List ℕ) → Bytes xs → 8 ≤ length xs → xs ≡ digits 4 (le 4 xs 0) ++ digits 2 (le 2 xs 4) ++ digits 2 (le 2 xs 6) ++ drop 8 xs
missing_fields xs b h = next_field 4 xs 0 b (omega arith) ∙ next_two (digits 4 (le 4 xs 0)) xs 2 2 4 b h

module _ (v : View) (span : ℕ) (xs : List ℕ) (p : Parts v span xs) (bytes : Bytes xs) where
  part_laid : {o : ℕ} → v.offset ≡ o → drop o xs ≡ local_layout v.form v.span (named_in v xs)
  unfolding named_in
  part_laid q =
      ap (λ (n : ℕ). drop n xs) (sym q)
      ∙ local_layout_lem v.form (part_in v xs) v.span v.count p.local (bytes_tail xs v.offset bytes)

  -- counted from 0: with no header, this is the whole body
  rest_laid : {o : ℕ} → v.offset ≡ o → v.base ≡ 0 → drop o xs ≡ local_layout v.form v.span (shift v.base (named_in v xs))
  rest_laid o z = part_laid o ∙ ap (λ (rows : List ℕ). local_layout v.form v.span rows) (sym (ap (λ (b : ℕ). shift b (named_in v xs)) z ∙ shift_zero (named_in v xs)))

  -- behind the count and another number of two bytes
  headed : (second : ℕ) → v.offset ≡ 4 → v.base ≡ 0 → v.count ≡ le 2 xs 0 → le 2 xs 2 ≡ second
      → xs ≡ digits 2 (length (shift v.base (named_in v xs))) ++ digits 2 second ++ local_layout v.form v.span (shift v.base (named_in v xs))
  headed second o z c s =
      let n : length (shift v.base (named_in v xs)) ≡ le 2 xs 0 = whole_length v span xs p bytes ∙ c in
      rw (n, ← s, ← rest_laid o z) (two_fields xs bytes (omega (arith, p.room)))

-- ---- by tag

abbrev Laid : ℕ → List ℕ → ℕ → Type 0
Laid span xs tag = single_accepts tag span xs ≡ true → Bytes xs → xs ≡ single_layout tag (view_of tag span xs).trimmed span (single_names tag span xs)

accepted_fields : (tag span : ℕ) (xs : List ℕ) → single_accepts tag span xs ≡ true → fields_ok tag xs ≡ true
unfolding single_accepts
accepted_fields tag span xs ok = both_left _ _ ok

module _ (span : ℕ) (xs : List ℕ) where
  laid_dense : Laid span xs 1
  unfolding single_layout plain_layout single_names view_of pick
  laid_dense ok b = rest_laid (view_of 1 span xs) span xs (single_parts 1 span xs ok) b refl refl

  laid_missing : Laid span xs 7
  unfolding single_layout plain_layout single_names view_of fields_ok pick
  laid_missing ok b = headed (view_of 7 span xs) span xs (single_parts 7 span xs ok) b 0 refl refl refl (eqb-true (le 2 xs 2) 0 (accepted_fields 7 span xs ok))

  by_view : (tag : ℕ) {v : View} → v ≡ view_of tag span xs → (Parts v span xs → xs ≡ single_layout tag v.trimmed span (shift v.base (named_in v xs))) → single_accepts tag span xs ≡ true
      → xs ≡ single_layout tag (view_of tag span xs).trimmed span (single_names tag span xs)
  unfolding single_names
  by_view tag e f ok =
      subst (λ (w : View). Parts w span xs → xs ≡ single_layout tag w.trimmed span (shift w.base (named_in w xs))) e f (single_parts tag span xs ok)

  laid_list : (wide : Bool) → Laid span xs (list_tag wide)
  unfolding single_layout pick
  laid_list wide ok b =
      by_view (list_tag wide) (sym (list_view wide span xs)) (λ p. rest_laid _ span xs p b refl refl ∙ sym (list_plain wide span _)) ok

  -- the number of runs that the header states is that of the list, by the length of the rest
  laid_runs : (wide : Bool) → Laid span xs (runs_tag wide)
  unfolding single_layout pick
  laid_runs wide ok b =
      by_view (runs_tag wide) (sym (runs_view wide span xs))
      (λ p.
      let rest = rest_laid _ span xs p b refl refl in
      let rows : List ℕ = shift 0 (named_in (view (runs_tag wide) false 0 span (le 2 xs 0) 4) xs) in
      let size : length xs - 4 ≡ length (runs_of rows) * (width_of wide + 4) = sym (length-drop 4 xs) ∙ ap length rest ∙ runs_layout-length wide span rows in
      let stated : le 2 xs 2 ≡ (length xs - 4) / (width_of wide + 4) = eqb-true _ _ (sym (runs_fields wide xs) ∙ accepted_fields (runs_tag wide) span xs ok) in
      headed _ span xs p b (length (runs_of rows)) refl refl refl (stated ∙ rw size (mul-div_cancel (length (runs_of rows)) (omega arith))) ∙ sym (runs_plain wide span rows))
      ok

  -- ---- trimmed: base and extent are those of the list, as both ends are present

  module _ (v : View) (p : Parts v span xs) (bytes : Bytes xs) (trimmed : v.trimmed ≡ true) where
    both_ends : both (has (named_in v xs) 0) (has (named_in v xs) (v.span - 1)) ≡ true
    unfolding ends_ok
    both_ends = sym (pick_true _ _ trimmed) ∙ p.ends

    first_row : first_of (shift v.base (named_in v xs)) ≡ v.base
    first_row = first_is (named_rising v span xs p bytes) (both_left _ _ both_ends) (both_right _ _ both_ends) v.base

    extent : extent_of (shift v.base (named_in v xs)) ≡ v.span
    extent = extent_is (named_rising v span xs p bytes) (both_left _ _ both_ends) (both_right _ _ both_ends) v.base

    -- what stands behind the header
    trimmed_local : (form offset : ℕ) → v.form ≡ form → v.offset ≡ offset
        → local_layout form (extent_of (shift v.base (named_in v xs))) (positions_of (first_of (shift v.base (named_in v xs))) (shift v.base (named_in v xs))) ≡ drop offset xs
    trimmed_local form offset f o =
        ap₂ (λ (e g : ℕ). local_layout form e (positions_of g (shift v.base (named_in v xs)))) extent first_row
        ∙ ap₂ (λ (t : ℕ) (rows : List ℕ). local_layout t v.span rows) (sym f) (positions_shift v.base (named_in v xs))
        ∙ sym (part_laid v span xs p bytes o)

    trimmed_bitmap : v.form ≡ 6 → v.offset ≡ 12 → v.base ≡ le 4 xs 4 → v.span ≡ le 4 xs 8 → v.count ≡ le 2 xs 0 → le 2 xs 2 ≡ 1 → xs ≡ trimmed_layout 6 (shift v.base (named_in v xs))
    unfolding trimmed_layout pick
    trimmed_bitmap f o b s c flag =
        let rows : List ℕ = shift v.base (named_in v xs) in
        let n : length rows ≡ le 2 xs 0 = whole_length v span xs p bytes ∙ c in
        let g : first_of rows ≡ le 4 xs 4 = first_row ∙ b in
        let e : extent_of rows ≡ le 4 xs 8 = extent ∙ s in
        let rest : local_layout 6 (extent_of rows) (positions_of (first_of rows) rows) ≡ drop 12 xs = trimmed_local 6 12 f o in
        rw (rest, n, ← flag, g, e) (bitmap_fields xs bytes (omega (arith, p.room)))

    trimmed_missing : v.form ≡ 7 → v.offset ≡ 8 → v.base ≡ le 4 xs 0 → v.span ≡ le 2 xs 4 → v.count ≡ le 2 xs 6 → xs ≡ trimmed_layout 8 (shift v.base (named_in v xs))
    unfolding trimmed_layout pick
    trimmed_missing f o b s c =
        let rows : List ℕ = shift v.base (named_in v xs) in
        let n : length rows ≡ le 2 xs 6 = whole_length v span xs p bytes ∙ c in
        let g : first_of rows ≡ le 4 xs 0 = first_row ∙ b in
        let e : extent_of rows ≡ le 2 xs 4 = extent ∙ s in
        let rest : local_layout 7 (extent_of rows) (positions_of (first_of rows) rows) ≡ drop 8 xs = trimmed_local 7 8 f o in
        rw (rest, n, g, e) (missing_fields xs bytes (omega (arith, p.room)))

  laid_trimmed_missing : Laid span xs 8
  unfolding single_layout single_names view_of trimmed_missing_view pick
  laid_trimmed_missing ok b = trimmed_missing (trimmed_missing_view xs) (single_parts 8 span xs ok) b refl refl refl refl refl refl

  -- a bitmap by its flag

  flag_is : (k : ℕ) → get_or xs 2 0 ≡ k → get_or xs 3 0 ≡ 0 → le 2 xs 2 ≡ k
  unfolding le
  flag_is k f z = omega arith

  laid_bitmap : Laid span xs 6
  unfolding single_layout plain_layout view_of bitmap_view fields_ok pick
  laid_bitmap ok b =
      let fields = accepted_fields 6 span xs ok in
      let flag : get_or xs 2 0 ≤ 1 = leb-true (get_or xs 2 0) 1 (both_left _ _ fields) in
      let zero-byte : get_or xs 3 0 ≡ 0 = eqb-true (get_or xs 3 0) 0 (both_right _ _ fields) in
      ⊎_elim
      (λ one.
      let set : le 2 xs 2 ≡ 1 = flag_is 1 (eqb-true (get_or xs 2 0) 1 one) zero-byte in
      ⊎_elim
      (λ long. by_view 6 {v = view 6 true (le 4 xs 4) (le 4 xs 8) (le 2 xs 0) 12} (sym (pick_true _ _ one ∙ pick_true _ _ long)) (λ p. trimmed_bitmap _ p b refl refl refl refl refl refl set) ok)
      (λ short. by_view 6 {v = view 6 false 0 0 (le 2 xs 0) 12} (sym (pick_true _ _ one ∙ pick_false _ _ short)) (λ p. absurd (omega (arith, p.room, leb-false 12 (length xs) short))) ok)
      (either (leb 12 (length xs))))
      (λ other.
      let clear : le 2 xs 2 ≡ 0 = flag_is 0 (let n : get_or xs 2 0 ≡ 1 → ⊥ = eqb-false (get_or xs 2 0) 1 other in omega arith) zero-byte in
      by_view 6 {v = view 6 false 0 span (le 2 xs 0) 4} (sym (pick_false _ _ other)) (λ p. headed _ span xs p b 0 refl refl refl clear) ok)
      (either (eqb (get_or xs 2 0) 1))

  -- no other tag has an accepted body
  laid_other : (tag : ℕ) → Other 8 tag → Laid span xs tag
  unfolding local_accepts by_tag pick
  laid_other tag o ok b = by_view tag {v = view 0 false 0 span 0 0} (sym (other_view tag span xs o)) (λ p. absurd (false≢true p.local)) ok

pub single_layout_lem : (tag span : ℕ) (xs : List ℕ) → single_accepts tag span xs ≡ true → Bytes xs → xs ≡ single_layout tag (view_of tag span xs).trimmed span (single_names tag span xs)
unfolding list_tag runs_tag
single_layout_lem tag span xs =
    tag_cases (Laid span xs)
    (laid_dense span xs) (laid_list span xs true) (laid_list span xs false) (laid_runs span xs false) (laid_runs span xs true) (laid_bitmap span xs) (laid_missing span xs)
    (laid_trimmed_missing span xs) (laid_other span xs)
    tag

-- ---- so no second accepted body of the tag names the list over the span, a bitmap's plain and trimmed forms held apart

-- every other tag is trimmed or not by itself
by_itself : (tag span : ℕ) (xs ys : List ℕ) → (tag ≡ 6 → (view_of tag span xs).trimmed ≡ (view_of tag span ys).trimmed) → (view_of tag span xs).trimmed ≡ (view_of tag span ys).trimmed
unfolding view_of trimmed_missing_view pick
by_itself tag span xs ys =
    tag_cases (λ (t : ℕ). (t ≡ 6 → (view_of t span xs).trimmed ≡ (view_of t span ys).trimmed) → (view_of t span xs).trimmed ≡ (view_of t span ys).trimmed)
    (λ h. refl) (λ h. refl) (λ h. refl) (λ h. refl) (λ h. refl) (λ h. h refl) (λ h. refl) (λ h. refl)
    (λ t o h. ap (λ (v : View). v.trimmed) (other_view t span xs o ∙ sym (other_view t span ys o)))
    tag

pub one_body : (tag span : ℕ) (xs ys : List ℕ) → single_accepts tag span xs ≡ true → single_accepts tag span ys ≡ true → Bytes xs → Bytes ys
    → (tag ≡ 6 → (view_of tag span xs).trimmed ≡ (view_of tag span ys).trimmed) → single_names tag span xs ≡ single_names tag span ys → xs ≡ ys
one_body tag span xs ys ok ok' b b' t e =
    single_layout_lem tag span xs ok b
    ∙ ap₂ (λ (trimmed : Bool) (rows : List ℕ). single_layout tag trimmed span rows) (by_itself tag span xs ys t) e
    ∙ sym (single_layout_lem tag span ys ok' b')
