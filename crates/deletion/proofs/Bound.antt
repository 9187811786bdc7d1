-- Refusal 6 never comes from deletion planning: the plan is no longer than the cheapest whole form, and a bitmap of all rows is one
-- of those.
-- Assumes nothing.
use mathlib.Core.Path.{◌≡◌, refl, sym, ◌∙◌}
use mathlib.Core.Bool.{false}
use mathlib.Core.Logic.{⊎_elim}
use mathlib.Core.List.{List, [], ◌++◌}
use Prim.Native.Nat.{ℕ, ◌+◌, ◌-◌, ◌*◌, ◌≤◌}
use native.Mathlib.Nat.{le_trans, sub-zero}
use native.Mathlib.Omega.{arith}
use lib.Dec.{eqb, leb, lit<}
use lib.ListN.{length}
use borrow.Author.Tests.{le-leb}
use Rattle.model.specs.Tests.{pick}
use Rattle.model.specs.Answers.{refused}
use Rattle.model.proofs.Tests.{either, pick_true, pick_false, both_true}
use Rattle.bitmap.specs.Body.{bitmap_length}
use Rattle.stats.specs.declared.Stats.{Stats}
use Rattle.cost.specs.Forms.{items_form, bitmap_form, dense_form, always, plain_offers, trimmed_offers, whole_form}
use Rattle.model.specs.Lists.{positions_of}
use Rattle.model.proofs.Answers.{same_number}
use Rattle.stats.specs.Statistics.{stats_of}
use Rattle.cost.proofs.Least.{least_each}
use Rattle.planning.specs.Refusals.{early_number}
use Rattle.planning.specs.Planning.{planned_segments, planned_form, late_number, plan_number, plan_of}
use Rattle.planning.proofs.Choosing.{chosen_short}
use Rattle.planning.proofs.Sound.{early_most}
use Rattle.planning.proofs.Accepted.{plan_number_lem}
use Rattle.deletion.specs.Reading.{body_limit, block_fits}
use Rattle.deletion.specs.Striking.{no_deletions, strike_of}

-- ---- a plan is at most a bitmap of all rows

whole_bitmap : (s : Stats) (span : ℕ) → (whole_form s span).bytes ≤ 4 + bitmap_length span
unfolding whole_form plain_offers trimmed_offers bitmap_form
whole_bitmap s span = least_each (items_form 2 false (4 * s.count) s.count) (plain_offers s span ++ trimmed_offers s) 3 (always dense_form) (lit< tt) refl

pub planned_short : (rows : ℕ) (ordinals : List ℕ) → (planned_form 0 rows ordinals []).bytes ≤ body_limit rows
unfolding planned_form body_limit
planned_short rows ordinals =
    let xs = positions_of 0 ordinals in
    let most : (whole_form (stats_of xs) (rows - 0)).bytes ≤ 4 + bitmap_length rows = rw (sub-zero rows) (whole_bitmap (stats_of xs) rows) in
    le_trans (chosen_short (rows - 0) xs (planned_segments 0 ordinals [])) most

pub limit_short : (rows : ℕ) → rows ≤ 65535 → body_limit rows ≤ 65535
unfolding body_limit
limit_short rows h = omega arith

-- ---- no test gives 6

module _ (rows : ℕ) (ordinals : List ℕ) (words room : ℕ) (small : rows ≤ 65535) where
  late_other : late_number (planned_form 0 rows ordinals []).bytes (body_limit rows) room ≡ 6 → ⊥
  unfolding late_number
  late_other e =
      let short = planned_short rows ordinals in
      let q = pick_true (pick {A = ℕ} (leb (planned_form 0 rows ordinals []).bytes room) 0 7) 6 (both_true _ _ (le-leb _ _ short) (le-leb _ _ (le_trans short (limit_short rows small)))) in
      ⊎_elim
      (λ h. let z : ◌≡◌ {A = ℕ} 0 6 = sym (q ∙ pick_true 0 7 h) ∙ e in omega arith)
      (λ h. let z : ◌≡◌ {A = ℕ} 7 6 = sym (q ∙ pick_false 0 7 h) ∙ e in omega arith)
      (either (leb (planned_form 0 rows ordinals []).bytes room))

  plan_other : plan_number 0 rows ordinals [] (body_limit rows) words room ≡ 6 → ⊥
  unfolding plan_number
  plan_other e =
      ⊎_elim
      (λ h. late_other (sym (pick_true _ _ h) ∙ e))
      (λ h. let z : early_number 0 rows ordinals [] words ≡ 6 = sym (pick_false _ _ h) ∙ e in omega (arith, early_most 0 rows ordinals [] words))
      (either (eqb (early_number 0 rows ordinals [] words) 0))

pub never_six : (rows limit : ℕ) (ordinals : List ℕ) (words room : ℕ) → rows ≤ 65535 → (strike_of rows limit ordinals words room).number ≡ 6 → ⊥
unfolding strike_of
never_six rows limit ordinals words room small e =
    let plan = plan_of 0 rows ordinals [] (body_limit rows) words room in
    let inner = pick (leb 1 (length ordinals)) plan no_deletions in
    ⊎_elim
    (λ h.
    let e1 : inner.number ≡ 6 = sym (same_number (pick_true inner (refused 9) h)) ∙ e in
    ⊎_elim
    (λ g.
    plan_other rows ordinals words room small
    (sym (plan_number_lem 0 rows ordinals [] (body_limit rows) words room) ∙ sym (same_number (pick_true plan no_deletions g)) ∙ e1))
    (λ g. let z : ◌≡◌ {A = ℕ} 0 6 = sym (same_number (pick_false plan no_deletions g)) ∙ e1 in omega arith)
    (either (leb 1 (length ordinals))))
    (λ h. let z : ◌≡◌ {A = ℕ} 9 6 = sym (same_number (pick_false inner (refused 9) h)) ∙ e in omega arith)
    (either (block_fits rows limit))
