-- The body of the chosen form, where the segmented layout is good: it is as long as the form says, is accepted under its tag, and names the rows.
-- And what the numbers of a plan that is not refused say.
-- Assumes nothing.
use mathlib.Core.Path.{◌≡◌, sym, ◌∙◌}
use mathlib.Core.Logic.{⊎_elim}
use mathlib.Core.List.{List}
use Prim.Native.Nat.{ℕ, ◌≤◌}
use native.Mathlib.Omega.{arith}
use lib.Dec.{eqb, leb}
use lib.ListN.{length}
use borrow.Author.Tests.{eq-eqb, eqb-true, leb-true}
use Rattle.model.specs.Tests.{both}
use Rattle.model.specs.Lists.{Rising}
use Rattle.model.proofs.Tests.{either, both_left, both_right, pick_most, pick_true, pick_false}
use Rattle.cost.specs.declared.Form.{Form}
use Rattle.cost.proofs.Stated.{stated_whole}
use Rattle.gather_core.proofs.Admitted.{passes}
use Rattle.bodies.specs.Bodies.{Holds}
use Rattle.planning.specs.Refusals.{coverage_fits, count_fits, rows_fit, given_fit, room_fits, early_number}
use Rattle.planning.specs.Segments.{stats_each}
use Rattle.planning.specs.Bodies.{segmented_form, segmented_layout, form_for, body_of}
use Rattle.planning.specs.Planning.{planned_form, late_number, plan_number}
use Rattle.planning.proofs.Singly.{whole_holds}
use Rattle.planning.proofs.Choosing.{Choice, in_segments, as_whole, choice}

-- ---- the body of a choice

-- what is known of a segmented layout: it is as long as its form says, and where its fields have room it is accepted and names the rows
pub record SegmentedGood (span : ℕ) (xs : List ℕ) (segs : List (List ℕ)) : Type 0 where
  pub sized : length (segmented_layout segs) ≡ (segmented_form (stats_each segs)).bytes
  pub holds : length (segmented_layout segs) ≤ 65535 → Holds 9 span xs (segmented_layout segs)

module _ {span : ℕ} {xs : List ℕ} {segs : List (List ℕ)} (r : Rising 0 span xs) (some : 1 ≤ length xs) (good : SegmentedGood span xs segs) where
  each_length : (f : Form) (body : List ℕ) → Choice span xs segs f body → length body ≡ f.bytes
  each_length _ _ (in_segments e) = good.sized
  each_length _ _ (as_whole e) = sym (stated_whole span xs r some)

  pub body_length : length (body_of span xs segs) ≡ (form_for span xs segs).bytes
  body_length = each_length (form_for span xs segs) (body_of span xs segs) (choice span xs segs)

  module _ (few : length xs ≤ 65535) (small : span ≤ 4294967295) where
    each_holds : (f : Form) (body : List ℕ) → Choice span xs segs f body → length body ≤ 65535 → Holds f.tag span xs body
    unfolding segmented_form
    each_holds _ _ (in_segments e) h = good.holds h
    each_holds _ _ (as_whole e) h = whole_holds r some few small

    pub body_holds : length (body_of span xs segs) ≤ 65535 → Holds (form_for span xs segs).tag span xs (body_of span xs segs)
    body_holds = each_holds (form_for span xs segs) (body_of span xs segs) (choice span xs segs)

-- ---- the numbers of the tests before merging

pub early_most : (start end : ℕ) (rows seeds : List ℕ) (words : ℕ) → early_number start end rows seeds words ≤ 5
unfolding early_number
early_most start end rows seeds words =
    pick_most (coverage_fits start end) _ 1 5
    (pick_most (count_fits rows) _ 2 5
    (pick_most (rows_fit start end rows) _ 3 5
    (pick_most (given_fit rows seeds) _ 4 5 (pick_most (room_fits rows seeds words) 0 5 5 (omega arith) (omega arith)) (omega arith))
    (omega arith))
    (omega arith))
    (omega arith)

-- ---- the numbers of a plan that is not refused

-- the late tests, 6 and 7
pub late_zero : (bytes limit room : ℕ) → late_number bytes limit room ≡ 0 → (bytes ≤ limit) × (bytes ≤ 65535) × (bytes ≤ room)
unfolding late_number
late_zero bytes limit room e =
    let a = passes (both (leb bytes limit) (leb bytes 65535)) 6 _ (λ z. omega arith) e in
    let b = passes (leb bytes room) 7 0 (λ z. omega arith) a.1 in
    (leb-true bytes limit (both_left _ _ a.0), leb-true bytes 65535 (both_right _ _ a.0), leb-true bytes room b.0)

module _ (start end : ℕ) (rows seeds : List ℕ) (limit words room : ℕ) (ok : plan_number start end rows seeds limit words room ≡ 0) where
  pub plan_early : early_number start end rows seeds words ≡ 0
  unfolding plan_number
  plan_early =
      ⊎_elim (λ e. eqb-true _ _ e) (λ e. sym (pick_false _ _ e) ∙ ok) (either (eqb (early_number start end rows seeds words) 0))

  pub plan_late : late_number (planned_form start end rows seeds).bytes limit room ≡ 0
  unfolding plan_number
  plan_late = sym (pick_true _ _ (eq-eqb _ _ plan_early)) ∙ ok
