-- Demand 2, of merging: the segments and the offers that planning answers are the plain rule's, and of n seeds, given or generated, there are
-- at most 3(n - 1) offers. A plan that is refused answers neither.
-- Assumes nothing.
use mathlib.Core.Path.{◌≡◌, refl, sym, ap, ◌∙◌}
use mathlib.Core.Logic.{⊎_elim}
use mathlib.Core.List.{List, [], ◌∷◌}
use Prim.Native.Nat.{ℕ, ◌-◌, ◌*◌, ◌≤◌}
use native.Mathlib.Omega.{arith}
use lib.ListN.{length}
use borrow.Author.Tests.{eq-eqb, ne_eqb, le-leb}
use Rattle.model.specs.Answers.{Answer, accepted}
use Rattle.model.specs.Lists.{positions_of}
use Rattle.model.proofs.Tests.{either, pick_true, pick_false}
use Rattle.gather_core.specs.Seeds.{windows}
use Rattle.links.specs.Pairs.{rows_admitted, rows_saving}
use Rattle.merge.specs.Rule.{merged, offers, cuts_from}
use Rattle.merge.proofs.Offers.{offers_most}
use Rattle.planning.specs.Refusals.{ends_of}
use Rattle.planning.specs.Segments.{between, cuts_left, offers_for, pieces, segments_of}
use Rattle.planning.specs.Planning.{planned_segments, planned_offers, planned_form, planned_values, plan_of}
use Rattle.planning.proofs.Accepted.{plan_number_lem, plan_accepted}
use Rattle.deletion.specs.Reading.{body_limit, block_fits}
use Rattle.deletion.specs.Striking.{strike_of}
use Rattle.demands.specs.Demands.{segments_in, offers_in}

-- ---- the seeds: those given, or the windows where none are

pub seeds_given : (rows seeds : List ℕ) → 1 ≤ length seeds → ends_of rows seeds ≡ seeds
unfolding ends_of
seeds_given rows seeds some = pick_false _ _ (ne_eqb (length seeds) 0 (λ z. omega arith))

pub seeds_generated : (rows : List ℕ) → ends_of rows [] ≡ windows rows
unfolding ends_of
seeds_generated rows = pick_true _ _ (eq-eqb 0 0 refl)

-- one segment fewer than cuts
pieces-length : {A : Type 0} (g : ℕ → ℕ → A) (cs : List ℕ) → length (pieces g cs) ≡ length cs - 1
unfolding pieces
pieces-length g [] = refl
pieces-length g (l ∷ []) = refl
pieces-length g (l ∷ m ∷ cs) = let rest = pieces-length g (m ∷ cs) in omega arith

-- ---- a plan that is not refused

module _ (start end : ℕ) (rows seeds : List ℕ) (limit words room : ℕ) where
  abbrev plan : Answer
  plan = plan_of start end rows seeds limit words room

  -- the rows of the seeds from one cut to another, and the cuts at the start: each seed is a segment
  abbrev held : ℕ → ℕ → List ℕ
  held = between (positions_of start rows) (ends_of rows seeds)

  abbrev cuts : List ℕ
  cuts = cuts_from 0 (length (ends_of rows seeds))

  module _ (ok : plan.number ≡ 0) where
    values : plan ≡ accepted (planned_values (planned_form start end rows seeds) (length (planned_segments start rows seeds)) (planned_offers start rows seeds))
    values = plan_accepted start end rows seeds limit words room (sym (plan_number_lem start end rows seeds limit words room) ∙ ok)

    pub plan_segments : segments_in plan ≡ length (merged (rows_admitted held) (rows_saving held) cuts) - 1
    unfolding planned_values planned_segments segments_of cuts_left
    plan_segments = rw values (pieces-length held (cuts_left (positions_of start rows) (ends_of rows seeds)))

    pub plan_offers : offers_in plan ≡ offers (rows_admitted held) (rows_saving held) cuts
    unfolding planned_values planned_offers offers_for
    plan_offers = rw values refl

    pub plan_offers_most : offers_in plan ≤ 3 * (length (ends_of rows seeds) - 1)
    plan_offers_most = rw plan_offers (offers_most (rows_admitted held) (rows_saving held) (length (ends_of rows seeds)))

    pub given_offers_most : 1 ≤ length seeds → offers_in plan ≤ 3 * (length seeds - 1)
    given_offers_most some = omega (arith, plan_offers_most, ap length (seeds_given rows seeds some))

pub generated_offers_most : (start end : ℕ) (rows : List ℕ) (limit words room : ℕ) → (plan_of start end rows [] limit words room).number ≡ 0
    → offers_in (plan_of start end rows [] limit words room) ≤ 3 * (length (windows rows) - 1)
generated_offers_most start end rows limit words room ok = omega (arith, plan_offers_most start end rows [] limit words room ok, ap length (seeds_generated rows))

-- ---- deletions are planned over [0, row count), without seeds

module _ (rows limit : ℕ) (ordinals : List ℕ) (words room : ℕ) (some : 1 ≤ length ordinals) (ok : (strike_of rows limit ordinals words room).number ≡ 0) where
  pub struck_plan : strike_of rows limit ordinals words room ≡ plan_of 0 rows ordinals [] (body_limit rows) words room
  unfolding strike_of
  struck_plan =
      ⊎_elim
      (λ e. pick_true _ _ e ∙ pick_true _ _ (le-leb 1 (length ordinals) some))
      (λ e. absurd (let nine : 9 ≡ 0 = sym (ap (λ (a : Answer). a.number) (pick_false _ _ e)) ∙ ok in omega arith))
      (either (block_fits rows limit))

  pub strike_offers_most : offers_in (strike_of rows limit ordinals words room) ≤ 3 * (length (windows ordinals) - 1)
  strike_offers_most = rw struck_plan (generated_offers_most 0 rows ordinals (body_limit rows) words room (rw struck_plan at ok))
