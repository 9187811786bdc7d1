-- The answers of the checks of a body with one local form.
-- Assumes nothing.
use Rattle.std.proofs.Common.{◌≡◌, ℕ, ◌+◌, ◌-◌, ◌<◌, ◌≤◌, Bool, true, false, eqb, leb, List, length, get_or, take, drop, sym, ap, ◌∙◌, ⊎_elim, arith, le-ltb, le-leb}
use borrow.Author.Tests.{lt-leb}
use Rattle.model.specs.Tests.{both, pick}
use Rattle.model.specs.Lists.{has, place_of}
use Rattle.model.specs.declared.Place.{Place}
use Rattle.model.proofs.Tests.{order, same_or_not, strictly, either, both_first, both_second, pick_true, pick_false}
use Rattle.model.proofs.Taking.{tail_is}
use Rattle.model.proofs.Counted.{both_pass}
use Rattle.forms.specs.Forms.{local_accepts, local_names}
use Rattle.forms.proofs.Tags.{Other, local_cases, other_ne}
use Rattle.single.specs.Single.{header_of, view, bitmap_view, trimmed_missing_view, view_of, fields_ok, named_in, ends_ok, view_accepts, single_accepts}
use Rattle.single.specs.declared.View.{View}

-- a place that was read is present as the list has it
pub present_is : {r : Place} (xs : List ℕ) (p : ℕ) → r ≡ place_of xs p → r.present ≡ has xs p
unfolding place_of
present_is xs p e = ap (λ (q : Place). q.present) e

-- ---- the answers of `view_ok`, test by test

module _ (v : View) (span : ℕ) (xs : List ℕ) where
  abbrev pub Lent : List ℕ
  Lent = take (length xs - v.offset) (drop v.offset xs)

  pub view_short : length xs < v.offset → false ≡ view_accepts v span xs
  unfolding view_accepts
  view_short h = sym (both_first _ _ (lt-leb v.offset (length xs) h))

  module _ (room : v.offset ≤ length xs) where
    pub view_wide : span < v.base + v.span → false ≡ view_accepts v span xs
    unfolding view_accepts
    view_wide h = both_pass (le-leb v.offset (length xs) room) (sym (both_first _ _ (lt-leb (v.base + v.span) span h)))

    module _ (inside : v.base + v.span ≤ span) where
      passed : {r : Bool} → r ≡ both (local_accepts v.form (drop v.offset xs) v.span v.count) (ends_ok v xs) → r ≡ view_accepts v span xs
      unfolding view_accepts
      passed e = both_pass (le-leb v.offset (length xs) room) (both_pass (le-leb (v.base + v.span) span inside) e)

      pub view-refused : local_accepts v.form Lent v.span v.count ≡ false → false ≡ view_accepts v span xs
      view-refused e = passed (sym (both_first _ _ (rw (tail_is v.offset xs) at e)))

      module _ (ok : local_accepts v.form Lent v.span v.count ≡ true) where
        pub view_ends : {r : Bool} → v.trimmed ≡ true → r ≡ both (has (local_names v.form Lent v.span v.count) 0) (has (local_names v.form Lent v.span v.count) (v.span - 1)) → r ≡ view_accepts v span xs
        unfolding ends_ok named_in
        view_ends t e = passed (both_pass (rw (tail_is v.offset xs) at ok) (rw (tail_is v.offset xs) at e ∙ sym (pick_true _ _ t)))

        pub view_plain : v.trimmed ≡ false → true ≡ view_accepts v span xs
        unfolding ends_ok
        view_plain t = passed (both_pass (rw (tail_is v.offset xs) at ok) (sym (pick_false _ _ t)))

-- ---- by tag

-- what holds of the tags 1 to 8 and of every other tag holds of every tag
pub tag_cases : (P : ℕ → Type 0) → P 1 → P 2 → P 3 → P 4 → P 5 → P 6 → P 7 → P 8 → ((tag : ℕ) → Other 8 tag → P tag) → (tag : ℕ) → P tag
tag_cases P p1 p2 p3 p4 p5 p6 p7 p8 other =
    local_cases P p1 p2 p3 p4 p5 p6 p7 (λ t o. ⊎_elim (λ e. rw e p8) (λ n. other t (λ h. strictly (o h) (λ e. n (sym e)))) (same_or_not t 8))

-- no other tag has a header or a local form
pub other_view : (tag span : ℕ) (xs : List ℕ) → Other 8 tag → view_of tag span xs ≡ view 0 false 0 span 0 0
unfolding view_of pick
other_view tag span xs o =
    let ne : (k : ℕ) → 1 ≤ k → k ≤ 8 → eqb tag k ≡ false = other_ne o in
    rw (ne 1 (omega arith) (omega arith), ne 2 (omega arith) (omega arith), ne 3 (omega arith) (omega arith), ne 4 (omega arith) (omega arith), ne 5 (omega arith) (omega arith), ne 6 (omega arith) (omega arith), ne 7 (omega arith) (omega arith), ne 8 (omega arith) (omega arith))

other_header : (tag : ℕ) → Other 8 tag → header_of tag ≡ 0
unfolding header_of pick
other_header tag o =
    rw (other_ne o 8 (omega arith) (omega arith))
    (⊎_elim (λ (p : 0 < tag). rw (le-ltb tag 4 (omega (arith, o p)), le-ltb tag 8 (omega (arith, o p)))) (λ (z : tag ≤ 0). let e : tag ≡ 0 = omega arith in rw e) (order 0 tag))

-- ---- a body that is shorter than its header is refused: no view starts before the header ends

bitmap_starts : (span : ℕ) (xs : List ℕ) → 4 ≤ (bitmap_view span xs).offset
unfolding bitmap_view pick
bitmap_starts span xs =
    ⊎_elim
    (λ e. rw e (⊎_elim (λ f. rw f (omega arith)) (λ f. rw f (omega arith)) (either (leb 12 (length xs)))))
    (λ e. rw e (omega arith))
    (either (eqb (get_or xs 2 0) 1))

pub starts : (tag span : ℕ) (xs : List ℕ) → header_of tag ≤ (view_of tag span xs).offset
unfolding header_of view_of trimmed_missing_view pick
starts tag span xs =
    tag_cases (λ (t : ℕ). header_of t ≤ (view_of t span xs).offset)
    (omega arith) (omega arith) (omega arith) (omega arith) (omega arith) (bitmap_starts span xs) (omega arith) (omega arith)
    (λ t o. rw (other_header t o) (omega arith))
    tag

-- ---- the answers of `check`

module _ (tag span : ℕ) (xs : List ℕ) where
  pub single_short : length xs < header_of tag → false ≡ single_accepts tag span xs
  unfolding single_accepts
  single_short h = sym (both_second _ _ (sym (view_short (view_of tag span xs) span xs (omega (arith, starts tag span xs)))))

  pub single_fields : fields_ok tag xs ≡ false → false ≡ single_accepts tag span xs
  unfolding single_accepts
  single_fields e = sym (both_first _ _ e)

  pub single_view : {r : Bool} {v : View} → fields_ok tag xs ≡ true → v ≡ view_of tag span xs → r ≡ view_accepts v span xs → r ≡ single_accepts tag span xs
  unfolding single_accepts
  single_view f e g = both_pass f (rw e at g)
