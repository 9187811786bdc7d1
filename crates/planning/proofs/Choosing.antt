-- The choice between the segmented form and the cheapest whole form: which of the two it is, and that it is never longer than the whole form.
-- Assumes nothing.
use mathlib.Core.Path.{◌≡◌, refl}
use mathlib.Core.Bool.{true, false}
use mathlib.Core.Logic.{◌⊎◌, ⊎_elim, inl, inr}
use mathlib.Core.List.{List}
use Prim.Native.Nat.{ℕ, ◌≤◌}
use native.Mathlib.Nat.{le_refl}
use native.Mathlib.Omega.{arith}
use lib.ListN.{length}
use borrow.Author.Tests.{ne_eqb}
use Rattle.model.specs.Tests.{pick}
use Rattle.model.proofs.Tests.{either, pick_true, pick_false}
use Rattle.stats.specs.declared.Stats.{Stats}
use Rattle.stats.specs.Statistics.{stats_of}
use Rattle.cost.specs.declared.Form.{Form}
use Rattle.cost.specs.Forms.{lex, dense_form, items_form, bitmap_form, whole_form}
use Rattle.cost.proofs.Least.{less_head}
use Rattle.cost.proofs.Chosen.{Whole, dense, list32, list16, runs16, runs32, bitmap, trimmed_bitmap, missing, trimmed_missing, whole_chosen}
use Rattle.single.specs.Layout.{single_layout}
use Rattle.planning.specs.Segments.{stats_each}
use Rattle.planning.specs.Bodies.{segmented_form, choice_key, chosen, form_for, segmented_layout, layout_by, body_of}

-- ---- a whole form is of the tags 1 to 8

each_tag : {s : Stats} {span : ℕ} (f : Form) → Whole s span f → f.tag ≤ 8
unfolding dense_form items_form bitmap_form
each_tag _ (dense e) = omega arith
each_tag _ list32 = omega arith
each_tag _ (list16 h) = omega arith
each_tag _ (runs16 h) = omega arith
each_tag _ (runs32 h) = omega arith
each_tag _ bitmap = omega arith
each_tag _ trimmed_bitmap = omega arith
each_tag _ (missing h) = omega arith
each_tag _ (trimmed_missing h) = omega arith

pub whole_tag : (s : Stats) (span : ℕ) → (whole_form s span).tag ≤ 8
whole_tag s span = each_tag (whole_form s span) (whole_chosen s span)

module _ (span : ℕ) (xs : List ℕ) (segs : List (List ℕ)) where
  abbrev whole : Form
  whole = whole_form (stats_of xs) span

  abbrev segmented : Form
  segmented = segmented_form (stats_each segs)

  -- ---- which of the two: by the keys

  -- the segmented form, where its key is the lesser, or else the whole form; and the body is the form's own
  pub data Choice : Form → List ℕ → Type 0 where
    in_segments : lex (choice_key segmented (length segs)) (choice_key whole 1) ≡ true → Choice segmented (segmented_layout segs)
    as_whole : lex (choice_key segmented (length segs)) (choice_key whole 1) ≡ false → Choice whole (single_layout whole.tag whole.trimmed span xs)

  segmented_body : layout_by segmented span xs segs ≡ segmented_layout segs
  unfolding layout_by segmented_form pick
  segmented_body = refl

  whole_body : layout_by whole span xs segs ≡ single_layout whole.tag whole.trimmed span xs
  unfolding layout_by
  whole_body = pick_false _ _ (ne_eqb whole.tag 9 (λ q. omega (arith, whole_tag (stats_of xs) span)))

  pub choice : Choice (form_for span xs segs) (body_of span xs segs)
  unfolding form_for body_of chosen
  choice =
      ⊎_elim
      (λ e. rw (pick_true segmented whole e, segmented_body) (in_segments e))
      (λ e. rw (pick_false segmented whole e, whole_body) (as_whole e))
      (either (lex (choice_key segmented (length segs)) (choice_key whole 1)))

  -- ---- so it is never longer than the cheapest whole form

  each_short : (f : Form) (body : List ℕ) → Choice f body → f.bytes ≤ whole.bytes
  unfolding choice_key
  each_short _ _ (in_segments e) = less_head _ _ _ _ e
  each_short _ _ (as_whole e) = le_refl whole.bytes

  pub chosen_short : (form_for span xs segs).bytes ≤ (whole_form (stats_of xs) span).bytes
  chosen_short = each_short (form_for span xs segs) (body_of span xs segs) choice

  -- the tag says which
  each_form : (f : Form) (body : List ℕ) → Choice f body → ((f.tag ≡ 9) × (f ≡ segmented)) ⊎ ((f.tag ≤ 8) × (f ≡ whole))
  unfolding segmented_form
  each_form _ _ (in_segments e) = inl (refl, refl)
  each_form _ _ (as_whole e) = inr (whole_tag (stats_of xs) span, refl)

  pub chosen_form : (((form_for span xs segs).tag ≡ 9) × (form_for span xs segs ≡ segmented_form (stats_each segs))) ⊎ (((form_for span xs segs).tag ≤ 8) × (form_for span xs segs ≡ whole_form (stats_of xs) span))
  chosen_form = each_form (form_for span xs segs) (body_of span xs segs) choice
