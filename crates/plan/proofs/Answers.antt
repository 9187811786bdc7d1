-- What is answered and left once the tests before merging are decided, by the tests after it.
-- Assumes nothing.
use mathlib.Core.Path.{◌≡◌, sym, ap, ◌∙◌}
use mathlib.Core.List.{List, ◌++◌}
use Prim.Native.Nat.{ℕ, ◌*◌, ◌≤◌}
use lib.ListN.{length, drop, replicate}
use lib.Seq.{drop-append_seam}
use borrow.Author.Tests.{eq-eqb, ne_eqb, le-leb}
use Rattle.model.specs.Answers.{accepted, refused, over}
use Rattle.model.proofs.Tests.{pick_true, pick_false}
use Rattle.planning.specs.Refusals.{ends_of, room_fits, early_number}
use Rattle.planning.proofs.Dividing.{early_divided}
use Rattle.planning.specs.Planning.{planned_segments, planned_offers, planned_form, planned_body, late_number, planned_values, plan_number, plan_of, plan_out, plan_work}
use Rattle.planning.proofs.Accepted.{answered_none, answered_some}

module _ (start end : ℕ) (rows seeds : List ℕ) (limit words : ℕ) where
  -- a refusal 1 to 5
  module _ (k : ℕ) (out work : List ℕ) (e : k ≡ early_number start end rows seeds words) (n : k ≡ 0 → ⊥) where
    early-number : plan_number start end rows seeds limit words (length out) ≡ k
    unfolding plan_number
    early-number = pick_false _ _ (ne_eqb _ _ (λ z. n (e ∙ z))) ∙ sym e

    pub early_answer : refused k ≡ plan_of start end rows seeds limit words (length out)
    unfolding plan_of
    early_answer = sym (rw early-number (answered_some k _ n))

    pub early_out : out ≡ plan_out start end rows seeds limit words out
    unfolding plan_out
    early_out = sym (pick_false _ _ (ne_eqb _ _ (λ z. n (sym early-number ∙ z))))

    pub early_work : words ≡ length work → work ≡ plan_work start end rows seeds work
    unfolding plan_work
    early_work w = sym (pick_false _ _ (ne_eqb _ _ (λ z. n (e ∙ ap (λ (j : ℕ). early_number start end rows seeds j) w ∙ z))))

  module _ (room : early_number start end rows seeds words ≡ 0) (out : List ℕ) where
    late-number : plan_number start end rows seeds limit words (length out) ≡ late_number (planned_form start end rows seeds).bytes limit (length out)
    unfolding plan_number
    late-number = pick_true _ _ (eq-eqb _ _ room)

    -- refusals 6 and 7
    module _ (k : ℕ) (e : k ≡ late_number (planned_form start end rows seeds).bytes limit (length out)) where
      pub late_answer : (k ≡ 0 → ⊥) → refused k ≡ plan_of start end rows seeds limit words (length out)
      unfolding plan_of
      late_answer n = sym (rw (late-number, ← e) (answered_some k _ n))

      pub late_out : (k ≡ 0 → ⊥) → out ≡ plan_out start end rows seeds limit words out
      unfolding plan_out
      late_out n = sym (pick_false _ _ (ne_eqb _ _ (λ z. n (e ∙ sym late-number ∙ z))))

      -- acceptance
      pub made_answer : k ≡ 0
          → accepted (planned_values (planned_form start end rows seeds) (length (planned_segments start rows seeds)) (planned_offers start rows seeds))
          ≡ plan_of start end rows seeds limit words (length out)
      unfolding plan_of
      made_answer z = sym (answered_none _ _ (late-number ∙ sym e ∙ z))

      pub made_out : k ≡ 0 → over (planned_body start end rows seeds) out ≡ plan_out start end rows seeds limit words out
      unfolding plan_out
      made_out z = sym (pick_true _ _ (eq-eqb _ _ (late-number ∙ sym e ∙ z)))

  -- the workspace, unless one of 1 to 5 refused
  pub cleared : (work : List ℕ) → words ≡ length work → early_number start end rows seeds words ≡ 0 → over (replicate (length (ends_of rows seeds) * 24) 0) work ≡ plan_work start end rows seeds work
  unfolding plan_work
  cleared work w e = sym (pick_true _ _ (eq-eqb _ _ (ap (λ (j : ℕ). early_number start end rows seeds j) (sym w) ∙ e)))

-- ---- the part of the workspace that the seeds need

module _ (start end : ℕ) (rows seeds : List ℕ) (words : ℕ) (ok : early_number start end rows seeds words ≡ 0) where
  -- it is enough for the tests
  pub cut_early : (v : ℕ) → length (ends_of rows seeds) * 24 ≤ v → early_number start end rows seeds v ≡ 0
  unfolding early_number room_fits
  cut_early v h = rw (le-leb (length (ends_of rows seeds) * 24) v h) (rw (le-leb (length (ends_of rows seeds) * 24) words (early_divided start end rows seeds words ok).room) at ok)

  -- and changes nothing else
  module _ (v : ℕ) (less : early_number start end rows seeds v ≡ 0) (limit : ℕ) (out : List ℕ) where
    cut_number : plan_number start end rows seeds limit v (length out) ≡ plan_number start end rows seeds limit words (length out)
    cut_number = late-number start end rows seeds limit v less out ∙ sym (late-number start end rows seeds limit words ok out)

    pub cut_answer : plan_of start end rows seeds limit v (length out) ≡ plan_of start end rows seeds limit words (length out)
    unfolding plan_of
    cut_answer = rw cut_number

    pub cut_out : plan_out start end rows seeds limit v out ≡ plan_out start end rows seeds limit words out
    unfolding plan_out
    cut_out = rw cut_number

-- a part that came back, written over
pub over_back : (zs ys xs : List ℕ) (v : ℕ) → length zs ≡ v → length ys ≡ v → over zs (ys ++ drop v xs) ≡ over zs xs
unfolding over
over_back zs ys xs v e f =
    let seam : drop v (ys ++ drop v xs) ≡ drop v xs = rw (← f) (drop-append_seam ys (drop (length ys) xs)) in
    rw (e, seam)
