-- A whole body is a header and a local layout: over the whole span, or from the first row to the last.
-- Assumes nothing.
use mathlib.Core.Path.{◌≡◌, refl, ap, ◌∙◌}
use mathlib.Core.Logic.{⊎_elim}
use mathlib.Core.List.{List, [], ◌∷◌, ◌++◌}
use Prim.Native.Nat.{ℕ, ◌+◌, ◌-◌, ◌<◌, ◌≤◌}
use native.Mathlib.Omega.{arith}
use lib.ListN.{length, get_or, length-append}
use borrow.Author.Tests.{ne_eqb}
use Rattle.model.specs.Tests.{pick}
use Rattle.model.specs.Lists.{runs_of, positions_of}
use Rattle.model.proofs.Tests.{order}
use Rattle.model.proofs.Rising.{rising_from, rising_below, rising_first}
use Rattle.forms.specs.Forms.{local_layout}
use Rattle.forms.proofs.Tags.{Other, other_ne}
use Rattle.single.specs.Layout.{first_of, extent_of, plain_layout, trimmed_layout}
use Rattle.single.proofs.Laws.{tag_cases}
use Rattle.stats.specs.Rows.{Covered}
use Rattle.model.proofs.Positions.{length_positions, get_or_positions}
use Rattle.emit.specs.Written.{Written}
use Rattle.emit.proofs.Emitting.{written_more, written-length}
use Rattle.encode.specs.Headers.{plain_header, bitmap_header, missing_header}
use Rattle.encode.proofs.Headers.{header_low, header_high, length-bitmap_header, length-missing_header}

-- ---- over the whole span

other_cut : (span : ℕ) (rows : List ℕ) (tag : ℕ) → Other 8 tag → plain_layout tag span rows ≡ plain_header tag (length rows) (length (runs_of rows)) ++ local_layout tag span rows
unfolding plain_layout pick
other_cut span rows tag o =
    let head : plain_header tag (length rows) (length (runs_of rows)) ≡ [] = ⊎_elim (λ h. header_high tag _ _ (omega (arith, o h))) (λ z. header_low tag _ _ (omega arith)) (order 0 tag) in
    rw (head, other_ne o 4 (omega arith) (omega arith), other_ne o 5 (omega arith) (omega arith), other_ne o 6 (omega arith) (omega arith), other_ne o 7 (omega arith) (omega arith))

pub plain_cut : (tag span : ℕ) (rows : List ℕ) → plain_layout tag span rows ≡ plain_header tag (length rows) (length (runs_of rows)) ++ local_layout tag span rows
unfolding plain_layout plain_header pick
plain_cut tag span rows =
    tag_cases (λ (t : ℕ). plain_layout t span rows ≡ plain_header t (length rows) (length (runs_of rows)) ++ local_layout t span rows)
    refl refl refl refl refl refl refl refl (other_cut span rows) tag

pub plain_own : (tag span start : ℕ) (rows : List ℕ) {runs : ℕ} → runs ≡ length (runs_of (positions_of start rows)) → plain_layout tag span (positions_of start rows) ≡ plain_header tag (length rows) runs ++ local_layout tag span (positions_of start rows)
plain_own tag span start rows e = plain_cut tag span (positions_of start rows) ∙ rw (length_positions, e)

-- ---- a body in two parts: each has room where the whole has, and both together are the whole

module _ {whole : List ℕ} (head rest : List ℕ) (e : whole ≡ head ++ rest) where
  pub head_room : {n : ℕ} → length whole ≤ n → 0 + length head ≤ n
  head_room h = omega (arith, ap length e, length-append head rest)

  pub rest_room : {xs ys : List ℕ} {p : ℕ} → Written head 0 xs ys p → length whole ≤ length xs → p + length rest ≤ length ys
  rest_room w h = omega (arith, ap length e, length-append head rest, w.behind, written-length w)

  pub both-written : {xs ys zs : List ℕ} {p q : ℕ} → Written head 0 xs ys p → Written rest p ys zs q → Written whole 0 xs zs q
  both-written v w = rw e (written_more v w)

pub plain_head : (tag span start : ℕ) (rows : List ℕ) {runs n : ℕ} → runs ≡ length (runs_of (positions_of start rows)) → length (plain_layout tag span (positions_of start rows)) ≤ n → 0 + length (plain_header tag (length rows) runs) ≤ n
plain_head tag span start rows {runs} e h = head_room (plain_header tag (length rows) runs) (local_layout tag span (positions_of start rows)) (plain_own tag span start rows e) h

-- ---- from the first row to the last

pub bitmap_cut : (rows : List ℕ) → trimmed_layout 6 rows ≡ bitmap_header (first_of rows) (extent_of rows) (length rows) ++ local_layout 6 (extent_of rows) (positions_of (first_of rows) rows)
unfolding trimmed_layout bitmap_header pick
bitmap_cut rows = refl

pub missing_cut : (tag : ℕ) (rows : List ℕ) → (tag ≡ 6 → ⊥) → trimmed_layout tag rows ≡ missing_header (first_of rows) (extent_of rows) (length rows) ++ local_layout 7 (extent_of rows) (positions_of (first_of rows) rows)
unfolding trimmed_layout missing_header pick
missing_cut tag rows n = rw (ne_eqb tag 6 n)

-- rows counted from one of them, and their positions counted from its position
positions_again : (start c : ℕ) (rows : List ℕ) → start ≤ c → positions_of (c - start) (positions_of start rows) ≡ positions_of c rows
unfolding positions_of
positions_again start c [] h = refl
positions_again start c (x ∷ xs) h =
    let e : x - start - (c - start) ≡ x - c = omega arith in
    rw (e, positions_again start c xs h)

module _ (start : ℕ) (rows : List ℕ) (k : Covered start rows) where
  abbrev P : List ℕ
  P = positions_of start rows

  -- the first row and the last, and how far they are apart
  pub ends_in : (start ≤ get_or rows 0 0) × (get_or rows 0 0 ≤ get_or rows (length rows - 1) 0) × (get_or rows (length rows - 1) 0 < start + 4294967295)
  ends_in =
      let s = k.some in
      (rising_from k.rising 0 (omega arith), rising_first k.rising (length rows - 1) (omega arith), rising_below k.rising (length rows - 1) (omega arith))

  pub trimmed_first : first_of P ≡ get_or rows 0 0 - start
  unfolding first_of
  trimmed_first = let s = k.some in get_or_positions start rows 0 (omega arith)

  pub trimmed_extent : extent_of P ≡ get_or rows (length rows - 1) 0 - get_or rows 0 0 + 1
  unfolding extent_of
  trimmed_extent =
      let s = k.some in
      let e = ends_in in
      rw (length_positions, trimmed_first, get_or_positions start rows (length rows - 1) (omega arith)) (omega (arith, e.0, e.1))

  pub trimmed_own : positions_of (first_of P) P ≡ positions_of (get_or rows 0 0) rows
  trimmed_own = rw trimmed_first (positions_again start (get_or rows 0 0) rows ends_in.0)

  -- the layouts of rows counted from the first, behind the two headers
  module _ {base span n : ℕ} (b : base ≡ get_or rows 0 0 - start) (e : span ≡ get_or rows (length rows - 1) 0 - get_or rows 0 0 + 1) (c : n ≡ length rows) where
    pub bitmap_own : {tag : ℕ} → tag ≡ 6 → trimmed_layout tag P ≡ bitmap_header base span n ++ local_layout 6 span (positions_of (get_or rows 0 0) rows)
    bitmap_own t = ap (λ (u : ℕ). trimmed_layout u P) t ∙ bitmap_cut P ∙ rw (trimmed_own, trimmed_first, trimmed_extent, length_positions, b, e, c)

    pub missing_own : {tag : ℕ} → (tag ≡ 6 → ⊥) → trimmed_layout tag P ≡ missing_header base span n ++ local_layout 7 span (positions_of (get_or rows 0 0) rows)
    missing_own {tag} o = missing_cut tag P o ∙ rw (trimmed_own, trimmed_first, trimmed_extent, length_positions, b, e, c)

    pub bitmap_head : {tag m : ℕ} → tag ≡ 6 → length (trimmed_layout tag P) ≤ m → 12 ≤ m
    bitmap_head t h = omega (arith, head_room (bitmap_header base span n) (local_layout 6 span (positions_of (get_or rows 0 0) rows)) (bitmap_own t) h, length-bitmap_header base span n)

    pub missing_head : {tag m : ℕ} → (tag ≡ 6 → ⊥) → length (trimmed_layout tag P) ≤ m → 8 ≤ m
    missing_head t h = omega (arith, head_room (missing_header base span n) (local_layout 7 span (positions_of (get_or rows 0 0) rows)) (missing_own t) h, length-missing_header base span n)
