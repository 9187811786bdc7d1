-- Demand 2: the bytes of all nine tags against document 01's layouts, both ways. An accepted body, from any writer, is the layout of the
-- list that it names, and that list is one the form can hold over the span (T2); the layout of such a list is accepted and names it (T1).
-- Assumes nothing.
use mathlib.Core.Path.{◌≡◌, sym, ◌∙◌}
use mathlib.Core.Bool.{false}
use mathlib.Core.Logic.{⊎_elim}
use mathlib.Core.List.{List}
use Prim.Native.Nat.{ℕ, ◌-◌, ◌≤◌}
use native.Mathlib.Omega.{arith}
use lib.Dec.{eqb}
use lib.ListN.{length}
use Rattle.model.specs.Tests.{pick}
use Rattle.model.specs.Lists.{positions_of}
use Rattle.forms.proofs.Tags.{Other, other_ne}
use Rattle.bodies.specs.Bodies.{accepts, Holds}
use Rattle.demands.specs.Layouts.{Dense, Items, Runs, Bitmap, Missing, TrimmedMissing, Segmented, Exactly}
use Rattle.demands.proofs.BodyToRows.{dense_back, list32_back, list16_back, runs16_back, runs32_back, missing_back, trimmed_missing_back, bitmap_back, segmented_back}
use Rattle.demands.proofs.RowsToBody.{dense_forth, list32_forth, list16_forth, runs16_forth, runs32_forth, plain_bitmap_forth, trimmed_bitmap_forth, missing_forth, trimmed_missing_forth, segmented_forth}
use Rattle.planning.specs.Planning.{planned_values, plan_number, plan_of, plan_out}
use Rattle.planning.proofs.Accepted.{plan_number_lem, plan_accepted, output_holds}
use Rattle.demands.specs.Demands.{tag_in, body_in}

-- ---- each tag: accepted exactly where there is a list that the form can hold over the span and the body is its layout

pub dense_exactly : Exactly 1 Dense
dense_exactly = record { body_to_rows = dense_back; rows_to_body = λ span rows body wide d. dense_forth wide d }

pub list32_exactly : Exactly 2 (Items 4)
list32_exactly = record { body_to_rows = list32_back; rows_to_body = λ span rows body wide d. list32_forth wide d }

pub list16_exactly : Exactly 3 (Items 2)
list16_exactly = record { body_to_rows = list16_back; rows_to_body = λ span rows body wide d. list16_forth wide d }

pub runs16_exactly : Exactly 4 (Runs 2)
runs16_exactly = record { body_to_rows = runs16_back; rows_to_body = λ span rows body wide d. runs16_forth wide d }

pub runs32_exactly : Exactly 5 (Runs 4)
runs32_exactly = record { body_to_rows = runs32_back; rows_to_body = λ span rows body wide d. runs32_forth wide d }

pub bitmap_exactly : Exactly 6 Bitmap
bitmap_exactly = record { body_to_rows = bitmap_back; rows_to_body = λ span rows body wide d. ⊎_elim (plain_bitmap_forth wide) (trimmed_bitmap_forth wide) d }

pub missing_exactly : Exactly 7 Missing
missing_exactly = record { body_to_rows = missing_back; rows_to_body = λ span rows body wide d. missing_forth wide d }

pub trimmed_missing_exactly : Exactly 8 TrimmedMissing
trimmed_missing_exactly = record { body_to_rows = trimmed_missing_back; rows_to_body = λ span rows body wide d. trimmed_missing_forth wide d }

pub segmented_exactly : Exactly 9 Segmented
segmented_exactly = record { body_to_rows = segmented_back; rows_to_body = λ span rows body wide d. segmented_forth wide d }

-- and no body of another tag
pub no_other : (tag span : ℕ) (xs : List ℕ) → Other 9 tag → accepts tag span xs ≡ false
unfolding accepts pick
no_other tag span xs o =
    let ne : (k : ℕ) → 1 ≤ k → k ≤ 9 → eqb tag k ≡ false = other_ne o in
    rw (ne 1 (omega arith) (omega arith), ne 2 (omega arith) (omega arith), ne 3 (omega arith) (omega arith), ne 4 (omega arith) (omega arith), ne 5 (omega arith) (omega arith), ne 6 (omega arith) (omega arith), ne 7 (omega arith) (omega arith), ne 8 (omega arith) (omega arith), ne 9 (omega arith) (omega arith))

-- ---- and so of every plan that is not refused: the bytes that the answer counts, at the front of the output, under the answered tag

pub plan_holds : (start end : ℕ) (rows seeds : List ℕ) (limit words : ℕ) (out : List ℕ) → (plan_of start end rows seeds limit words (length out)).number ≡ 0
    → Holds (tag_in (plan_of start end rows seeds limit words (length out))) (end - start) (positions_of start rows)
    (body_in (plan_of start end rows seeds limit words (length out)) (plan_out start end rows seeds limit words out))
unfolding planned_values
plan_holds start end rows seeds limit words out ok =
    let n : plan_number start end rows seeds limit words (length out) ≡ 0 = sym (plan_number_lem start end rows seeds limit words (length out)) ∙ ok in
    rw (plan_accepted start end rows seeds limit words (length out) n) (output_holds start end rows seeds limit words out n)
