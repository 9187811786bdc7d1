-- T1 of all nine tags: a body that holds a list, as `Layouts` has the form, is accepted and names the list.
-- Assumes nothing.
use mathlib.Core.Path.{◌≡◌, refl, sym, ◌∙◌}
use mathlib.Core.Bool.{Bool}
use mathlib.Core.List.{List}
use Prim.Native.Nat.{ℕ, ◌≤◌}
use Rattle.model.specs.Tests.{pick}
use Rattle.forms.specs.Forms.{by_tag, local_layout}
use Rattle.forms.specs.RowSets.{RowSet}
use Rattle.single.specs.Layout.{plain_layout, single_layout}
use Rattle.segmented.specs.Cuts.{cut_layout}
use Rattle.segmented.proofs.CutOut.{cut_accepted, cut_named}
use Rattle.bodies.specs.Bodies.{Holds}
use Rattle.bodies.proofs.Laws.{accepts_nine, names_nine}
use Rattle.planning.proofs.Singly.{SingleFits, dense, list32, list16, runs16, runs32, bitmap, trimmed_bitmap, missing, trimmed_missing, single_holds}
use Rattle.demands.specs.Layouts.{Dense, Items, Runs, PlainBitmap, TrimmedBitmap, Missing, TrimmedMissing, Segmented}
use Rattle.demands.proofs.BodyToRows.{extends, bitmap_bytes, missing_bytes, in_span}

module _ {span : ℕ} {rows : List ℕ} (wide : span ≤ 4294967295) where
  holds : {tag : ℕ} {trims : Bool} {body : List ℕ} → RowSet span rows → SingleFits span rows tag trims → body ≡ single_layout tag trims span rows → Holds tag span rows body
  holds held fits e = rw e (single_holds held.rising held.some held.most wide fits)

  module _ {body : List ℕ} where
    pub dense_forth : Dense span rows body → Holds 1 span rows body
    unfolding single_layout plain_layout local_layout by_tag pick
    dense_forth d = holds d.held (dense d.whole) d.bytes

    pub list32_forth : Items 4 span rows body → Holds 2 span rows body
    unfolding single_layout plain_layout local_layout by_tag pick
    list32_forth d = holds d.held list32 d.bytes

    pub list16_forth : Items 2 span rows body → Holds 3 span rows body
    unfolding single_layout plain_layout local_layout by_tag pick
    list16_forth d = holds d.held (list16 d.fields) d.bytes

    pub runs16_forth : Runs 2 span rows body → Holds 4 span rows body
    unfolding single_layout plain_layout local_layout by_tag pick
    runs16_forth d = holds d.held (runs16 d.fields) d.bytes

    pub runs32_forth : Runs 4 span rows body → Holds 5 span rows body
    unfolding single_layout plain_layout local_layout by_tag pick
    runs32_forth d = holds d.held runs32 d.bytes

    pub plain_bitmap_forth : PlainBitmap span rows body → Holds 6 span rows body
    unfolding single_layout plain_layout local_layout by_tag pick
    plain_bitmap_forth d = holds d.held bitmap d.bytes

    pub trimmed_bitmap_forth : TrimmedBitmap span rows body → Holds 6 span rows body
    unfolding single_layout pick
    trimmed_bitmap_forth d = holds (in_span d.trimmed) trimmed_bitmap (d.bytes ∙ sym (bitmap_bytes d.trimmed))

    pub missing_forth : Missing span rows body → Holds 7 span rows body
    unfolding single_layout plain_layout local_layout by_tag pick
    missing_forth d = holds d.held (missing d.narrow) d.bytes

    pub trimmed_missing_forth : TrimmedMissing span rows body → Holds 8 span rows body
    unfolding single_layout pick
    trimmed_missing_forth d = holds (in_span d.trimmed) (trimmed_missing (rw (extends d.trimmed) d.narrow)) (d.bytes ∙ sym (missing_bytes d.trimmed))

    pub segmented_forth : Segmented span rows body → Holds 9 span rows body
    segmented_forth d = rw d.bytes (record {
      accepted = accepts_nine 9 span (cut_layout d.at d.n) refl ∙ cut_accepted wide d.fits;
      named = names_nine 9 span (cut_layout d.at d.n) refl ∙ cut_named wide d.fits ∙ sym d.rows_are;
    })
