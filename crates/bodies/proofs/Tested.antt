-- What the code tests is what `Accepted` asks: a body of one local form is tested by the view that its header gives.
-- Assumes nothing.
use mathlib.Core.Path.{◌≡◌, refl, sym, ◌∙◌}
use mathlib.Core.Bool.{Bool, true, false, false≢true}
use mathlib.Core.Logic.{⊎_elim}
use mathlib.Core.List.{List}
use Prim.Native.Nat.{ℕ, ◌+◌, ◌-◌, ◌*◌, ◌/◌, ◌≤◌}
use native.Mathlib.Nat.{mul-div_cancel}
use native.Mathlib.Omega.{arith}
use lib.Dec.{eqb, leb}
use lib.ListN.{length, get_or, drop, length-drop}
use borrow.Author.Tests.{eq-eqb, ne_eqb, le-leb, eqb-true, eqb-false, leb-true, leb-false}
use Rattle.fields.specs.Le.{le, width_of}
use Rattle.model.specs.Tests.{both, pick}
use Rattle.model.proofs.Tests.{either, same_test, refuse, both_true, both_left, both_right, pick_true, pick_false}
use Rattle.model.proofs.Counted.{counted_count}
use Rattle.runs.specs.Runs.{run_count, runs_accepts}
use Rattle.bitmap.specs.Body.{bitmap_accepts, bitmap_names}
use Rattle.forms.specs.Forms.{by_tag, list_tag, runs_tag, local_accepts, local_names}
use Rattle.forms.proofs.Laws.{local_counted}
use Rattle.forms.proofs.Tags.{Other, other_ne, by_list, by_runs}
use Rattle.single.specs.Single.{view, fit, view_of, bitmap_view, trimmed_missing_view, fields_ok, part_in, named_in, ends_ok, view_accepts, single_accepts}
use Rattle.single.specs.declared.View.{View}
use Rattle.single.proofs.Laws.{tag_cases, other_view}
use Rattle.single.proofs.Named.{Parts, single_parts}
use Rattle.single.proofs.Widths.{list_view, list_fields, runs_view, runs_fields}
use Rattle.bodies.specs.Accepted.{dense_body, list_body, runs_body, trimmed_to, trimmed_bitmap_body, bitmap_body, missing_body, trimmed_missing_body, accepts}

-- ---- put together: a body of which the view is known

view_passes : (tag span : ℕ) (xs : List ℕ) (v : View) → view_of tag span xs ≡ v → fields_ok tag xs ≡ true → v.offset ≤ length xs → v.base + v.span ≤ span
    → local_accepts v.form (part_in v xs) v.span v.count ≡ true → ends_ok v xs ≡ true → single_accepts tag span xs ≡ true
unfolding single_accepts view_accepts
view_passes tag span xs v e fields room inside local ends =
    rw e (both_true _ _ fields (both_true _ _ (le-leb _ _ room) (both_true _ _ (le-leb _ _ inside) (both_true _ _ local ends))))

fields_there : (tag span : ℕ) (xs : List ℕ) → single_accepts tag span xs ≡ true → fields_ok tag xs ≡ true
unfolding single_accepts
fields_there tag span xs ok = both_left _ _ ok

-- ---- a count that a u16 holds

fit_few : (n : ℕ) → n ≤ 65535 → fit n ≡ n
unfolding fit
fit_few n h = pick_true n 0 (le-leb n 65535 h)

fit_some : (n : ℕ) → 1 ≤ fit n → fit n ≡ n
unfolding fit
fit_some n h =
    ⊎_elim
    (λ (e : leb n 65535 ≡ true). pick_true n 0 e)
    (λ (e : leb n 65535 ≡ false). let z : 1 ≤ 0 = rw (pick_false n 0 e) at h in absurd (omega arith))
    (either (leb n 65535))

-- ---- the page, at a tag of either width

page_list : (wide : Bool) (span : ℕ) (xs : List ℕ) → accepts (list_tag wide) span xs ≡ list_body (width_of wide) span xs
unfolding accepts pick list_tag width_of
page_list true span xs = refl
page_list false span xs = refl

page_runs : (wide : Bool) (span : ℕ) (xs : List ℕ) → accepts (runs_tag wide) span xs ≡ runs_body (width_of wide) span xs
unfolding accepts pick runs_tag width_of
page_runs true span xs = refl
page_runs false span xs = refl

module _ (span : ℕ) (xs : List ℕ) where
  -- the tests of a tag are those of the page
  abbrev Same : ℕ → Type 0
  Same tag = accepts tag span xs ≡ single_accepts tag span xs

  -- without a header: the count is that of the bytes, or the span
  bare : (tag n : ℕ) (page : Bool) → view_of tag span xs ≡ view tag false 0 span (fit n) 0 → fields_ok tag xs ≡ true → page ≡ local_accepts tag xs span n → page ≡ single_accepts tag span xs
  unfolding ends_ok pick
  bare tag n page e fields same =
      same_test page (single_accepts tag span xs)
      (λ ok.
      let local : local_accepts tag xs span n ≡ true = sym same ∙ ok in
      let few = fit_few n (counted_count _ _ (local_counted tag xs span n local)).most in
      view_passes tag span xs _ e fields (omega arith) (omega arith) (rw few local) refl)
      (λ ok.
      let p : Parts (view tag false 0 span (fit n) 0) span xs = rw e at (single_parts tag span xs ok) in
      let n-is = fit_some n (counted_count _ _ (local_counted tag xs span (fit n) p.local)).some in
      same ∙ rw n-is at p.local)

  dense_same : Same 1
  unfolding accepts dense_body local_accepts by_tag view_of fields_ok pick
  dense_same = bare 1 span _ refl refl refl

  list_same : (wide : Bool) → Same (list_tag wide)
  unfolding local_accepts list_body
  list_same wide = page_list wide span xs ∙ bare (list_tag wide) (length xs / width_of wide) _ (list_view wide span xs) (list_fields wide xs) (sym (by_list wide _))

  -- behind a header of four bytes that states the count
  headed : (tag : ℕ) (page : Bool) → view_of tag span xs ≡ view tag false 0 span (le 2 xs 0) 4
      → (page ≡ true → (4 ≤ length xs) × (fields_ok tag xs ≡ true) × (local_accepts tag (drop 4 xs) span (le 2 xs 0) ≡ true))
      → (4 ≤ length xs → fields_ok tag xs ≡ true → local_accepts tag (drop 4 xs) span (le 2 xs 0) ≡ true → page ≡ true)
      → page ≡ single_accepts tag span xs
  unfolding ends_ok pick
  headed tag page e apart together =
      same_test page (single_accepts tag span xs)
      (λ ok. let a = apart ok in view_passes tag span xs _ e a.1 a.0 (omega arith) a.2 refl)
      (λ ok.
      let p : Parts (view tag false 0 span (le 2 xs 0) 4) span xs = rw e at (single_parts tag span xs ok) in
      together p.room (fields_there tag span xs ok) p.local)

  -- as many entries as are stated fill the rest of the body
  whole_entries : (w runs n : ℕ) → runs_accepts w (drop 4 xs) span n ≡ true → 4 ≤ length xs → runs ≡ (length xs - 4) / (w + 4) → length xs ≡ 4 + runs * (w + 4)
  unfolding runs_accepts run_count
  whole_entries w runs n ok h e =
      let test : eqb (length (drop 4 xs) / (w + 4) * (w + 4)) (length (drop 4 xs)) ≡ true = both_left _ _ (both_right _ _ ok) in
      let sized : (length xs - 4) / (w + 4) * (w + 4) ≡ length xs - 4 = rw (length-drop 4 xs) at (eqb-true (length (drop 4 xs) / (w + 4) * (w + 4)) (length (drop 4 xs)) test) in
      rw (e, sized) (omega arith)

  runs_same : (wide : Bool) → Same (runs_tag wide)
  unfolding runs_body local_accepts
  runs_same wide =
      page_runs wide span xs
      ∙ headed (runs_tag wide) _ (runs_view wide span xs)
      (λ ok.
      let size : length xs ≡ 4 + le 2 xs 2 * (width_of wide + 4) = eqb-true _ _ (both_left _ _ ok) in
      let rest : length xs - 4 ≡ le 2 xs 2 * (width_of wide + 4) = omega arith in
      let runs : (length xs - 4) / (width_of wide + 4) ≡ le 2 xs 2 = rw rest (mul-div_cancel (le 2 xs 2) (omega arith)) in
      (omega arith, runs_fields wide xs ∙ eq-eqb _ _ (sym runs), by_runs wide _ ∙ both_right _ _ ok))
      (λ h fields ok.
      let local : runs_accepts (width_of wide) (drop 4 xs) span (le 2 xs 0) ≡ true = sym (by_runs wide _) ∙ ok in
      both_true _ _ (eq-eqb _ _ (whole_entries (width_of wide) (le 2 xs 2) _ local h (eqb-true _ _ (sym (runs_fields wide xs) ∙ fields)))) local)

  missing_same : Same 7
  unfolding accepts missing_body local_accepts by_tag view_of fields_ok pick
  missing_same =
      headed 7 _ refl
      (λ ok. (leb-true _ _ (both_left _ _ ok), both_left _ _ (both_right _ _ ok), both_right _ _ (both_right _ _ ok)))
      (λ h fields ok. both_true _ _ (le-leb _ _ h) (both_true _ _ fields ok))

  -- ---- trimmed: behind its header, a local form of which both ends are present

  trims : (tag form base local n offset : ℕ) (page : Bool) → view_of tag span xs ≡ view form true base local n offset → (page ≡ true → fields_ok tag xs ≡ true)
      → (fields_ok tag xs ≡ true → both (leb offset (length xs)) (trimmed_to span base local (local_accepts form (drop offset xs) local n) (local_names form (drop offset xs) local n)) ≡ page)
      → (page ≡ true → page ≡ both (leb offset (length xs)) (trimmed_to span base local (local_accepts form (drop offset xs) local n) (local_names form (drop offset xs) local n)))
      → page ≡ single_accepts tag span xs
  unfolding trimmed_to ends_ok named_in pick
  trims tag form base local n offset page e fields there apart =
      same_test page (single_accepts tag span xs)
      (λ ok.
      let all = sym (apart ok) ∙ ok in
      let rest = both_right _ _ all in
      let form-ok = both_right _ _ rest in
      view_passes tag span xs _ e (fields ok) (leb-true _ _ (both_left _ _ all)) (leb-true _ _ (both_left _ _ rest)) (both_left _ _ form-ok) (both_right _ _ form-ok))
      (λ ok.
      let p : Parts (view form true base local n offset) span xs = rw e at (single_parts tag span xs ok) in
      sym (there (fields_there tag span xs ok)) ∙ both_true _ _ (le-leb _ _ p.room) (both_true _ _ (le-leb _ _ p.inside) (both_true _ _ p.local p.ends)))

  trimmed_missing_same : Same 8
  unfolding accepts trimmed_missing_body local_accepts local_names by_tag view_of trimmed_missing_view fields_ok pick
  trimmed_missing_same = trims 8 7 (le 4 xs 0) (le 2 xs 4) (le 2 xs 6) 8 _ refl (λ ok. refl) (λ f. refl) (λ ok. refl)

  -- a bitmap by its flag

  bitmap_plain : eqb (get_or xs 2 0) 1 ≡ false → Same 6
  unfolding accepts bitmap_body local_accepts by_tag view_of bitmap_view fields_ok pick
  bitmap_plain f =
      headed 6 _ (rw f)
      (λ ok.
      let page : both (leb 4 (length xs)) (both (eqb (get_or xs 3 0) 0) (both (eqb (get_or xs 2 0) 0) (bitmap_accepts (drop 4 xs) span (le 2 xs 0)))) ≡ true = rw f at ok in
      let rest = both_right _ _ page in
      let flag : get_or xs 2 0 ≡ 0 = eqb-true _ _ (both_left _ _ (both_right _ _ rest)) in
      (leb-true _ _ (both_left _ _ page), both_true _ _ (le-leb (get_or xs 2 0) 1 (omega arith)) (both_left _ _ rest), both_right _ _ (both_right _ _ rest)))
      (λ h fields ok.
      let clear : get_or xs 2 0 ≡ 0 = let n : get_or xs 2 0 ≡ 1 → ⊥ = eqb-false (get_or xs 2 0) 1 f in omega (arith, leb-true (get_or xs 2 0) 1 (both_left _ _ fields)) in
      rw f (both_true _ _ (le-leb _ _ h) (both_true _ _ (both_right _ _ fields) (both_true _ _ (eq-eqb _ _ clear) ok))))

  bitmap_trimmed : eqb (get_or xs 2 0) 1 ≡ true → 12 ≤ length xs → Same 6
  unfolding accepts bitmap_body trimmed_bitmap_body local_accepts local_names by_tag view_of bitmap_view fields_ok both pick
  bitmap_trimmed f h =
      let one : get_or xs 2 0 ≡ 1 = eqb-true _ _ f in
      trims 6 6 (le 4 xs 4) (le 4 xs 8) (le 2 xs 0) 12 _ (rw (f, le-leb 12 (length xs) h))
      (λ ok. both_true _ _ (le-leb (get_or xs 2 0) 1 (omega arith)) (both_left (eqb (get_or xs 3 0) 0) _ (both_right (leb 4 (length xs)) _ ok)))
      (λ fields. let z : eqb (get_or xs 3 0) 0 ≡ true = both_right (leb (get_or xs 2 0) 1) _ fields in rw (f, le-leb 4 (length xs) (omega arith), z))
      (λ ok. let z : eqb (get_or xs 3 0) 0 ≡ true = both_left (eqb (get_or xs 3 0) 0) _ (both_right (leb 4 (length xs)) _ ok) in rw (f, le-leb 4 (length xs) (omega arith), z))

  -- a trimmed header that is not all there
  bitmap_short : eqb (get_or xs 2 0) 1 ≡ true → leb 12 (length xs) ≡ false → Same 6
  unfolding accepts bitmap_body trimmed_bitmap_body view_of bitmap_view pick
  bitmap_short f s =
      same_test _ _
      (λ ok.
      let page : both (leb 4 (length xs)) (both (eqb (get_or xs 3 0) 0) (both false (trimmed_to span (le 4 xs 4) (le 4 xs 8) (bitmap_accepts (drop 12 xs) (le 4 xs 8) (le 2 xs 0)) (bitmap_names (drop 12 xs) (le 4 xs 8))))) ≡ true = rw (f, s) at ok in
      absurd (false≢true (both_left _ _ (both_right _ _ (both_right _ _ page)))))
      (λ ok.
      let e : view_of 6 span xs ≡ view 6 false 0 0 (le 2 xs 0) 12 = rw (f, s) in
      let p : Parts (view 6 false 0 0 (le 2 xs 0) 12) span xs = rw e at (single_parts 6 span xs ok) in
      absurd (omega (arith, leb-false 12 (length xs) s, p.room)))

  bitmap_same : Same 6
  bitmap_same =
      ⊎_elim
      (λ f. ⊎_elim (λ h. bitmap_trimmed f (leb-true 12 (length xs) h)) (λ s. bitmap_short f s) (either (leb 12 (length xs))))
      bitmap_plain
      (either (eqb (get_or xs 2 0) 1))

  other_same : (tag : ℕ) → (tag ≡ 9 → ⊥) → Other 8 tag → Same tag
  unfolding accepts local_accepts by_tag pick
  other_same tag n o =
      let ne : (k : ℕ) → 1 ≤ k → k ≤ 8 → eqb tag k ≡ false = other_ne o in
      rw (ne 1 (omega arith) (omega arith), ne 2 (omega arith) (omega arith), ne 3 (omega arith) (omega arith), ne 4 (omega arith) (omega arith), ne 5 (omega arith) (omega arith), ne 6 (omega arith) (omega arith), ne 7 (omega arith) (omega arith), ne 8 (omega arith) (omega arith), ne_eqb tag 9 n)
      (refuse _ (λ ok. let p : Parts (view 0 false 0 span 0 0) span xs = rw (other_view tag span xs o) at (single_parts tag span xs ok) in false≢true p.local))

  -- every tag but 9
  pub tested : (tag : ℕ) → (tag ≡ 9 → ⊥) → accepts tag span xs ≡ single_accepts tag span xs
  unfolding list_tag runs_tag
  tested =
      tag_cases (λ (t : ℕ). (t ≡ 9 → ⊥) → Same t)
      (λ n. dense_same) (λ n. list_same true) (λ n. list_same false) (λ n. runs_same false) (λ n. runs_same true) (λ n. bitmap_same) (λ n. missing_same) (λ n. trimmed_missing_same)
      (λ t o n. other_same t n o)
