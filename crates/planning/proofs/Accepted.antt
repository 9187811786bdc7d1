-- Every accepted plan: its body is as long as its form says, fits every limit, is never longer than the cheapest whole form, is accepted
-- under the answered tag, and names the rows.
-- Assumes nothing.
use mathlib.Core.Path.{◌≡◌, sym}
use mathlib.Core.Logic.{⊎_elim}
use mathlib.Core.List.{List}
use Prim.Native.Nat.{ℕ, ◌-◌, ◌≤◌}
use native.Mathlib.Omega.{arith}
use lib.ListN.{length, take}
use borrow.Author.Tests.{eq-eqb, ne_eqb}
use Rattle.model.specs.Answers.{accepted, refused, over}
use Rattle.model.proofs.Tests.{same_or_not, pick_true, pick_false}
use Rattle.model.proofs.Writing.{over-take}
use Rattle.stats.specs.Statistics.{stats_of}
use Rattle.cost.specs.Forms.{whole_form}
use Rattle.model.specs.Lists.{positions_of}
use Rattle.model.proofs.Positions.{length_positions}
use Rattle.bodies.specs.Bodies.{Holds}
use Rattle.planning.specs.Refusals.{early_number, ends_of}
use Rattle.planning.specs.Planning.{planned_segments, planned_offers, planned_form, planned_body, planned_values, answered, plan_number, plan_of, plan_out}
use Rattle.planning.proofs.Dividing.{Divided, early_divided}
use Rattle.planning.proofs.Linked.{plan_good}
use Rattle.planning.proofs.Choosing.{chosen_short}
use Rattle.planning.proofs.Sound.{body_length, body_holds, late_zero, plan_early, plan_late}

-- the body of rows that pass the tests before merging is as long as its form says
pub planned_size : (start end : ℕ) (rows seeds : List ℕ) (words : ℕ) → early_number start end rows seeds words ≡ 0
    → length (planned_body start end rows seeds) ≡ (planned_form start end rows seeds).bytes
unfolding planned_form planned_body planned_segments
planned_size start end rows seeds words ok =
    let d = early_divided start end rows seeds words ok in
    body_length d.positions (rw length_positions d.some) (plan_good d)

pub record Planned (start end : ℕ) (rows seeds : List ℕ) (limit room : ℕ) : Type 0 where
  pub sized : length (planned_body start end rows seeds) ≡ (planned_form start end rows seeds).bytes
  pub in_limit : length (planned_body start end rows seeds) ≤ limit
  pub short : length (planned_body start end rows seeds) ≤ 65535
  pub in_room : length (planned_body start end rows seeds) ≤ room
  pub least : length (planned_body start end rows seeds) ≤ (whole_form (stats_of (positions_of start rows)) (end - start)).bytes
  pub holds : Holds (planned_form start end rows seeds).tag (end - start) (positions_of start rows) (planned_body start end rows seeds)

module _ (start end : ℕ) (rows seeds : List ℕ) (limit words room : ℕ) (ok : plan_number start end rows seeds limit words room ≡ 0) where
  pub plan_divided : Divided start end rows (ends_of rows seeds) words
  plan_divided = early_divided start end rows seeds words (plan_early start end rows seeds limit words room ok)

  pub planned : Planned start end rows seeds limit room
  unfolding planned_form planned_body planned_segments
  planned =
      let d = plan_divided in
      let size = planned_size start end rows seeds words (plan_early start end rows seeds limit words room ok) in
      let late = late_zero (planned_form start end rows seeds).bytes limit room (plan_late start end rows seeds limit words room ok) in
      record {
        sized = size;
        in_limit = omega (arith, size, late.0);
        short = omega (arith, size, late.1);
        in_room = omega (arith, size, late.2);
        least = omega (arith, size, chosen_short (end - start) (positions_of start rows) (planned_segments start rows seeds));
        holds = body_holds d.positions (rw length_positions d.some) (plan_good d) (rw length_positions d.few) d.spans (omega (arith, size, late.1));
      }

-- ---- the answer and the output

pub answered_none : (n : ℕ) (values : List ℕ) → n ≡ 0 → answered n values ≡ accepted values
unfolding answered
answered_none n values e = pick_true _ _ (eq-eqb n 0 e)

pub answered_some : (n : ℕ) (values : List ℕ) → (n ≡ 0 → ⊥) → answered n values ≡ refused n
unfolding answered
answered_some n values o = pick_false _ _ (ne_eqb n 0 o)

pub answered-number : (n : ℕ) (values : List ℕ) → (answered n values).number ≡ n
answered-number n values = ⊎_elim (λ e. rw (answered_none n values e) (sym e)) (λ o. rw (answered_some n values o)) (same_or_not n 0)

-- the answer's number is the plan's, and where it is 0 its values are those of the form
pub plan_number_lem : (start end : ℕ) (rows seeds : List ℕ) (limit words room : ℕ) → (plan_of start end rows seeds limit words room).number ≡ plan_number start end rows seeds limit words room
unfolding plan_of
plan_number_lem start end rows seeds limit words room = answered-number (plan_number start end rows seeds limit words room) _

pub plan_accepted : (start end : ℕ) (rows seeds : List ℕ) (limit words room : ℕ) → plan_number start end rows seeds limit words room ≡ 0
    → plan_of start end rows seeds limit words room ≡ accepted (planned_values (planned_form start end rows seeds) (length (planned_segments start rows seeds)) (planned_offers start rows seeds))
unfolding plan_of
plan_accepted start end rows seeds limit words room ok = answered_none _ _ ok

-- the bytes that the answer counts, at the front of the output, are the body
pub output_holds : (start end : ℕ) (rows seeds : List ℕ) (limit words : ℕ) (out : List ℕ) → plan_number start end rows seeds limit words (length out) ≡ 0
    → Holds (planned_form start end rows seeds).tag (end - start) (positions_of start rows) (take (planned_form start end rows seeds).bytes (plan_out start end rows seeds limit words out))
unfolding plan_out
output_holds start end rows seeds limit words out ok =
    let p = planned start end rows seeds limit words (length out) ok in
    rw (pick_true (over (planned_body start end rows seeds) out) out (eq-eqb _ 0 ok), ← p.sized, over-take) p.holds
