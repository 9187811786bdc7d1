-- T1 of whole bodies of the tags 1 to 8: what is written is accepted, and names the rows.
-- Assumes nothing.
use mathlib.Core.Path.{◌≡◌, refl, sym, ◌∙◌}
use mathlib.Core.Bool.{Bool, true, false, false≢true}
use mathlib.Core.Logic.{⊎_elim}
use mathlib.Core.List.{List, ◌++◌}
use Prim.Native.Nat.{ℕ, ◌+◌, ◌-◌, ◌*◌, ◌/◌, ◌^◌, ◌<◌, ◌≤◌}
use native.Mathlib.Nat.{mod-eq_of_lt, mul-div_cancel}
use native.Mathlib.Omega.{arith}
use lib.Dec.{eqb}
use lib.ListN.{length, get_or, drop}
use borrow.Author.Tests.{le-leb, eq-eqb, eqb-false}
use Rattle.fields.specs.Le.{le, digits, width_of}
use Rattle.fields.proofs.Laws.{le-digits}
use Rattle.model.specs.Tests.{both, pick}
use Rattle.model.specs.Lists.{Rising, has, shift, runs_of, positions_of}
use Rattle.model.proofs.Tests.{either, both_true, pick_true, pick_false}
use Rattle.model.proofs.Rising.{rising_below, rising_wider, rising_first, rising_ends}
use Rattle.model.proofs.Standing.{has_at}
use Rattle.model.proofs.Positions.{length_positions, get_or_positions}
use Rattle.model.proofs.Append.{shift_zero}
use Rattle.forms.specs.Forms.{list_tag, runs_tag, local_accepts, local_layout}
use Rattle.forms.proofs.Laid.{LocalFits, layout_accepts, layout_names, fits_dense, fits_list, fits_runs, fits_bitmap, fits_missing, list_layout-length, runs_layout-length}
use Rattle.single.specs.Single.{view, fit, view_of, bitmap_view, trimmed_missing_view, fields_ok, part_in, named_in, ends_ok, view_accepts, single_accepts, single_names}
use Rattle.single.specs.Layout.{first_of, extent_of, plain_layout, trimmed_layout, single_layout}
use Rattle.single.specs.declared.View.{View}
use Rattle.single.proofs.Widths.{list_view, list_fields, list_plain, runs_view, runs_fields, runs_plain}
use Rattle.bodies.specs.Bodies.{Holds}
use Rattle.bodies.proofs.Laws.{accepts_other, names_other}
use Rattle.stats.specs.Statistics.{stats_of}
use Rattle.cost.specs.declared.Form.{Form}
use Rattle.cost.specs.Forms.{dense_form, items_form, bitmap_form, whole_form}
use Rattle.model.proofs.Runs.{runs_most}
use Rattle.cost.proofs.Chosen as cheapest
use Rattle.cost.proofs.Chosen.{Whole, whole_chosen}
use Rattle.planning.proofs.Parts.{extent_end, own_rises, own_back}

-- ---- a body of which the header reads as a view, and of which the rest is the layout of a list

record Written (tag span : ℕ) (v : View) (own body : List ℕ) : Type 0 where
  seen : view_of tag span body ≡ v
  fields : fields_ok tag body ≡ true
  room : v.offset ≤ length body
  inside : v.base + v.span ≤ span
  part : part_in v body ≡ local_layout v.form v.span own
  count : v.count ≡ length own
  fits : LocalFits v.form v.span own
  ends : v.trimmed ≡ true → both (has own 0) (has own (v.span - 1)) ≡ true

module _ {tag span : ℕ} {v : View} {own body : List ℕ} (w : Written tag span v own body) where
  own_named : named_in v body ≡ own
  unfolding named_in
  own_named = rw (w.part, w.count) (layout_names w.fits)

  local_there : local_accepts v.form (part_in v body) v.span v.count ≡ true
  local_there = rw (w.part, w.count) (layout_accepts w.fits)

  ends_there : ends_ok v body ≡ true
  unfolding ends_ok
  ends_there = rw own_named (⊎_elim (λ t. pick_true _ _ t ∙ w.ends t) (λ f. pick_false _ _ f) (either v.trimmed))

  view_there : view_accepts v span body ≡ true
  unfolding view_accepts
  view_there = both_true _ _ (le-leb _ _ w.room) (both_true _ _ (le-leb _ _ w.inside) (both_true _ _ local_there ends_there))

  written-holds : {rows : List ℕ} → eqb tag 9 ≡ false → shift v.base own ≡ rows → Holds tag span rows body
  unfolding single_accepts single_names
  written-holds e same = record {
    accepted = accepts_other tag span body (eqb-false tag 9 e) ∙ rw w.seen (both_true _ _ w.fields view_there);
    named = names_other tag span body (eqb-false tag 9 e) ∙ rw (w.seen, own_named) same;
  }

-- ---- what each tag wants of a list, beside that it has 1 to 65,535 positions that rise below the span

pub data SingleFits (span : ℕ) (xs : List ℕ) : ℕ → Bool → Type 0 where
  dense : length xs ≡ span → SingleFits span xs 1 false
  list32 : SingleFits span xs 2 false
  list16 : Rising 0 65536 xs → SingleFits span xs 3 false
  runs16 : Rising 0 65536 xs → SingleFits span xs 4 false
  runs32 : SingleFits span xs 5 false
  bitmap : SingleFits span xs 6 false
  trimmed_bitmap : SingleFits span xs 6 true
  missing : span ≤ 65535 → SingleFits span xs 7 false
  trimmed_missing : extent_of xs ≤ 65535 → SingleFits span xs 8 true

-- ---- a number that its field has room for is read back

back : (n v : ℕ) → v < 256 ^ n → le n (digits n v) 0 ≡ v
back n v h = le-digits n v ∙ mod-eq_of_lt h

fit_is : (n : ℕ) → n ≤ 65535 → fit n ≡ n
unfolding fit
fit_is n h = pick_true n 0 (le-leb n 65535 h)

width_some : (wide : Bool) → 0 < width_of wide
unfolding width_of
width_some true = omega arith
width_some false = omega arith

-- a plain form has no ends to be present
plain : {A : Type 0} → false ≡ true → A
plain e = absurd (false≢true e)

-- no position is past the last
narrow : {a b c : ℕ} {xs : List ℕ} → Rising a b xs → 1 ≤ length xs → get_or xs (length xs - 1) 0 < c → Rising 0 c xs
narrow {xs = xs} r some h = rising_wider (omega arith) (omega (arith, rising_first r (length xs - 1) (omega arith))) (rising_ends r refl)

module _ {span : ℕ} {xs : List ℕ} (r : Rising 0 span xs) (some : 1 ≤ length xs) (few : length xs ≤ 65535) (small : span ≤ 4294967295) where
  -- ---- without a header

  bare : (tag : ℕ) → view_of tag span (local_layout tag span xs) ≡ view tag false 0 span (length xs) 0 → fields_ok tag (local_layout tag span xs) ≡ true → LocalFits tag span xs
      → Written tag span (view tag false 0 span (length xs) 0) xs (local_layout tag span xs)
  bare tag seen fields fits = record { seen = seen; fields = fields; room = omega arith; inside = omega arith; part = refl; count = refl; fits = fits; ends = plain }

  write_dense : length xs ≡ span → Written 1 span (view 1 false 0 span (length xs) 0) xs (single_layout 1 false span xs)
  unfolding single_layout plain_layout view_of fields_ok pick
  write_dense e = bare 1 (rw (fit_is span (omega arith), e)) refl (fits_dense r some few e)

  write_list : (wide : Bool) → Rising 0 (256 ^ width_of wide) xs → Written (list_tag wide) span (view (list_tag wide) false 0 span (length xs) 0) xs (single_layout (list_tag wide) false span xs)
  unfolding single_layout pick
  write_list wide c =
      let n : length (local_layout (list_tag wide) span xs) / width_of wide ≡ length xs = rw (list_layout-length wide span xs) (mul-div_cancel (length xs) (width_some wide)) in
      rw (list_plain wide span xs) (bare (list_tag wide) (list_view wide span _ ∙ rw (n, fit_is (length xs) few)) (list_fields wide _) (fits_list r some few wide c))

  -- ---- with the count and another number of two bytes

  counted : le 2 (digits 2 (length xs)) 0 ≡ length xs
  counted = back 2 (length xs) (omega arith)

  headed : (tag second : ℕ) → view_of tag span (digits 2 (length xs) ++ digits 2 second ++ local_layout tag span xs) ≡ view tag false 0 span (length xs) 4
      → fields_ok tag (digits 2 (length xs) ++ digits 2 second ++ local_layout tag span xs) ≡ true → LocalFits tag span xs
      → Written tag span (view tag false 0 span (length xs) 4) xs (digits 2 (length xs) ++ digits 2 second ++ local_layout tag span xs)
  unfolding digits
  headed tag second seen fields fits = record { seen = seen; fields = fields; room = omega arith; inside = omega arith; part = refl; count = refl; fits = fits; ends = plain }

  write_runs : (wide : Bool) → Rising 0 (256 ^ width_of wide) xs → Written (runs_tag wide) span (view (runs_tag wide) false 0 span (length xs) 4) xs (single_layout (runs_tag wide) false span xs)
  unfolding single_layout pick digits le
  write_runs wide c =
      let body : List ℕ = digits 2 (length xs) ++ digits 2 (length (runs_of xs)) ++ local_layout (runs_tag wide) span xs in
      let n = counted in
      let m = back 2 (length (runs_of xs)) (omega (arith, runs_most xs)) in
      let size : length body - 4 ≡ length (runs_of xs) * (width_of wide + 4) = omega (arith, runs_layout-length wide span xs) in
      let stated : (length body - 4) / (width_of wide + 4) ≡ length (runs_of xs) = rw size (mul-div_cancel (length (runs_of xs)) (omega arith)) in
      rw (runs_plain wide span xs)
      (headed (runs_tag wide) (length (runs_of xs)) (runs_view wide span body ∙ rw n) (runs_fields wide body ∙ eq-eqb _ _ (m ∙ sym stated)) (fits_runs r some few wide c))

  write_bitmap : Written 6 span (view 6 false 0 span (length xs) 4) xs (single_layout 6 false span xs)
  unfolding single_layout plain_layout view_of bitmap_view fields_ok both pick digits le
  write_bitmap = let n = counted in headed 6 0 (rw n) refl (fits_bitmap r some few)

  write_missing : span ≤ 65535 → Written 7 span (view 7 false 0 span (length xs) 4) xs (single_layout 7 false span xs)
  unfolding single_layout plain_layout view_of fields_ok pick digits le
  write_missing narrow = let n = counted in headed 7 0 (rw n) refl (fits_missing r some few narrow)

  -- ---- trimmed: counted from the first row, and both ends are present

  abbrev first : ℕ
  first = first_of xs

  abbrev extent : ℕ
  extent = extent_of xs

  abbrev own : List ℕ
  own = positions_of first xs

  own_at : (k : ℕ) → k < length xs → get_or own k 0 ≡ get_or xs k 0 - first
  own_at k h = get_or_positions first xs k h

  own_ends : both (has own 0) (has own (extent - 1)) ≡ true
  unfolding first_of
  own_ends =
      let n : length own ≡ length xs = length_positions first xs in
      let low : get_or own 0 0 ≡ 0 = own_at 0 some ∙ omega arith in
      let high : get_or own (length xs - 1) 0 ≡ extent - 1 = own_at (length xs - 1) (omega arith) ∙ omega (arith, extent_end r some) in
      both_true _ _ (rw low at (has_at own 0 (omega arith))) (rw high at (has_at own (length xs - 1) (omega arith)))

  own_inside : first + extent ≤ span
  own_inside = omega (arith, extent_end r some, rising_below r (length xs - 1) (omega arith))

  trimmed : (tag form offset : ℕ) (body : List ℕ) → view_of tag span body ≡ view form true first extent (length xs) offset → fields_ok tag body ≡ true → offset ≤ length body
      → drop offset body ≡ local_layout form extent own → (1 ≤ length own → length own ≤ 65535 → LocalFits form extent own)
      → Written tag span (view form true first extent (length xs) offset) own body
  trimmed tag form offset body seen fields room part fits =
      let n : length own ≡ length xs = length_positions first xs in
      record { seen = seen; fields = fields; room = room; inside = own_inside; part = part; count = sym n; fits = fits (rw n some) (rw n few); ends = λ _. own_ends }

  write_trimmed_bitmap : Written 6 span (view 6 true first extent (length xs) 12) own (single_layout 6 true span xs)
  unfolding single_layout trimmed_layout view_of bitmap_view fields_ok both pick digits le
  write_trimmed_bitmap =
      let n = counted in
      let base = back 4 first (omega (arith, own_inside)) in
      let size = back 4 extent (omega (arith, own_inside)) in
      let long : 12 ≤ length (single_layout 6 true span xs) = omega arith in
      trimmed 6 6 12 (single_layout 6 true span xs) (rw (le-leb 12 (length (single_layout 6 true span xs)) long, n, base, size)) refl (omega arith) refl (λ s f. fits_bitmap (own_rises r some) s f)

  write_trimmed_missing : extent ≤ 65535 → Written 8 span (view 7 true first extent (length xs) 8) own (single_layout 8 true span xs)
  unfolding single_layout trimmed_layout view_of trimmed_missing_view fields_ok pick digits le
  write_trimmed_missing narrow =
      let n = counted in
      let base = back 4 first (omega (arith, own_inside)) in
      let size = back 2 extent (omega arith) in
      trimmed 8 7 8 _ (rw (n, base, size)) refl (omega arith) refl (λ s f. fits_missing (own_rises r some) s f narrow)

  -- ---- by tag: accepted, and the rows back

  plainly : {tag : ℕ} {v : View} {body : List ℕ} → Written tag span v xs body → v.base ≡ 0 → eqb tag 9 ≡ false → Holds tag span xs body
  plainly w z e = written-holds w e (rw z (shift_zero xs))

  from_own : {tag : ℕ} {v : View} {body : List ℕ} → Written tag span v own body → v.base ≡ first → eqb tag 9 ≡ false → Holds tag span xs body
  from_own w b e = written-holds w e (rw b (own_back r some))

  -- fields of four bytes hold every position
  held : Rising 0 (256 ^ 4) xs
  held = rising_wider (omega arith) (omega arith) r

  pub single_holds : {tag : ℕ} {trims : Bool} → SingleFits span xs tag trims → Holds tag span xs (single_layout tag trims span xs)
  unfolding list_tag runs_tag width_of
  single_holds (dense e) = plainly (write_dense e) refl refl
  single_holds list32 = plainly (write_list true held) refl refl
  single_holds (list16 c) = plainly (write_list false c) refl refl
  single_holds (runs16 c) = plainly (write_runs false c) refl refl
  single_holds runs32 = plainly (write_runs true held) refl refl
  single_holds bitmap = plainly write_bitmap refl refl
  single_holds trimmed_bitmap = from_own write_trimmed_bitmap refl refl
  single_holds (missing n) = plainly (write_missing n) refl refl
  single_holds (trimmed_missing n) = from_own (write_trimmed_missing n) refl refl

  -- ---- the cheapest whole form

  each_fits : (f : Form) → Whole (stats_of xs) span f → SingleFits span xs f.tag f.trimmed
  unfolding dense_form items_form bitmap_form stats_of first_of
  each_fits _ (cheapest.dense e) = dense e
  each_fits _ cheapest.list32 = list32
  each_fits _ (cheapest.list16 h) = list16 (narrow r some (omega arith))
  each_fits _ (cheapest.runs16 h) = runs16 (narrow r some (omega arith))
  each_fits _ (cheapest.runs32 h) = runs32
  each_fits _ cheapest.bitmap = bitmap
  each_fits _ cheapest.trimmed_bitmap = trimmed_bitmap
  each_fits _ (cheapest.missing h) = missing h
  each_fits _ (cheapest.trimmed_missing h) = trimmed_missing (omega (arith, extent_end r some))

  pub whole_holds : Holds (whole_form (stats_of xs) span).tag span xs (single_layout (whole_form (stats_of xs) span).tag (whole_form (stats_of xs) span).trimmed span xs)
  whole_holds = single_holds (each_fits (whole_form (stats_of xs) span) (whole_chosen (stats_of xs) span))
