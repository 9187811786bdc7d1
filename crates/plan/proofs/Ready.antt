-- From the tests to a workspace that can be merged, and from there to a body that has room.
-- Assumes nothing.
use mathlib.Core.Path.{◌≡◌, sym, ◌∙◌}
use mathlib.Core.List.{List}
use Prim.Native.Nat.{ℕ, suc, ◌+◌, ◌-◌, ◌*◌, ◌<◌, ◌≤◌}
use native.Mathlib.Omega.{arith}
use lib.ListN.{length, length-append}
use Rattle.model.specs.Lists.{positions_of}
use Rattle.stats.specs.Statistics.{stats_of}
use Rattle.model.proofs.Positions.{length_positions}
use Rattle.model.proofs.Rising.{rising_wider}
use Rattle.model.specs.Answers.{accepted, over}
use Rattle.model.proofs.Sets.{sets_front}
use Rattle.links.specs.Tables.{records, stat_at}
use Rattle.links.proofs.Tables.{records_stat}
use Rattle.planning.specs.Segments.{between, segments_of}
use Rattle.planning.specs.Bodies.{form_for, layout_by, body_of}
use Rattle.planning.specs.Refusals.{ends_of}
use Rattle.planning.specs.Planning.{planned_segments, planned_offers, planned_form, planned_body, late_number, planned_values}
use Rattle.planning.proofs.Dividing.{Divided}
use Rattle.planning.proofs.Narrow.{Parts, nothing, front, divided_narrow, plan_parts}
use Rattle.planning.proofs.Holding.{narrow_seeds, narrow_offers, merged_held, held_slice}
use Rattle.planning.proofs.Linked.{plan_good}
use Rattle.planning.proofs.Sound.{body_length, late_zero}
use Rattle.assemble.specs.Emission.{Writable, Laid}
use Rattle.plan.specs.declared.Decision.{Decision}
use Rattle.plan.specs.Merging.{Mergeable, Decided}

-- no more segments than rows
parts_few : {xs : List ℕ} {segs : List (List ℕ)} → Parts xs segs → length segs ≤ length xs
parts_few (nothing e) = omega arith
parts_few (front {seg = seg} {rest = rest} e some s p) = rw (e, length-append seg rest) (omega (arith, parts_few p))

module _ {start end words : ℕ} {rows ends : List ℕ} (d : Divided start end rows ends words) where
  some : 1 ≤ length (positions_of start rows)
  some = rw length_positions d.some

  whole_mergeable : {w : List ℕ} → length ends * 24 ≤ length w → ((i : ℕ) → i < length ends → stat_at w i ≡ stats_of (between (positions_of start rows) ends i (suc i)))
      → Mergeable (positions_of start rows) ends (end - start) (length ends) w
  whole_mergeable {w} room stats =
      let k = divided_narrow d in
      let f : (i : ℕ) → i < length ends → stat_at (records (length ends) w) i ≡ stats_of (between (positions_of start rows) ends i (suc i)) = λ i h. sym (records_stat (length ends) w i (omega arith)) ∙ stats i h in
      record {
        some = d.any_seeds;
        most = omega (arith, d.few_seeds);
        room = room;
        wide = d.spans;
        rising = d.positions;
        rows = some;
        seeds = narrow_seeds (positions_of start rows) ends k (stat_at (records (length ends) w)) f d.spans d.positions;
        offers = narrow_offers (positions_of start rows) ends k (stat_at (records (length ends) w)) f;
        held = λ w' l m. held_slice (merged_held (positions_of start rows) ends k (stat_at (records (length ends) w)) f (records (length ends) w') m);
      }

  pub mergeable : {span n : ℕ} {w : List ℕ} → span ≡ end - start → n ≡ length ends → length ends * 24 ≤ length w → ((i : ℕ) → i < n → stat_at w i ≡ stats_of (between (positions_of start rows) ends i (suc i)))
      → Mergeable (positions_of start rows) ends span n w
  mergeable {w = w} s e room stats = rw (s, e) (whole_mergeable {w = w} room (λ i h. stats i (rw e h)))

  -- the body that is chosen has room, where tests 6 and 7 are met
  pub roomy : {span n : ℕ} {w : List ℕ} {c : Decision} (limit room : ℕ) → span ≡ end - start → Decided (positions_of start rows) ends span n w c → late_number c.form.bytes limit room ≡ 0
      → (length (layout_by c.form span (positions_of start rows) (segments_of (positions_of start rows) ends)) ≤ room) × (length (layout_by c.form span (positions_of start rows) (segments_of (positions_of start rows) ends)) ≤ 65535)
  unfolding body_of
  roomy {span} {c = c} limit room s k z =
      let segs = segments_of (positions_of start rows) ends in
      let late = late_zero _ limit room z in
      let size : length (body_of span (positions_of start rows) segs) ≡ (form_for span (positions_of start rows) segs).bytes = rw s (body_length d.positions some (plan_good d)) in
      let same : length (layout_by c.form span (positions_of start rows) segs) ≡ c.form.bytes = rw k.form size in
      (omega (arith, same, late.2), omega (arith, same, late.1))

  pub writable : {span n : ℕ} {w : List ℕ} {c : Decision} (limit room : ℕ) → span ≡ end - start → n < 65536 → n * 8 + 8 ≤ length w → Decided (positions_of start rows) ends span n w c
      → late_number c.form.bytes limit room ≡ 0 → Writable n w start rows span c.form c.sum room
  writable limit room s most words k z =
      let v = roomy limit room s k z in
      record {
        kept = record { seeds = most; words = words; covered = d.covered; few = d.few; segs = segments_of (positions_of start rows) ends; held = k.held };
        rising = rising_wider (omega arith) (omega (arith, s, d.ordered)) d.rising;
        summed = k.sum;
        fits = v.0;
        short = v.1;
      }

  pub segments_few : {span n : ℕ} {w : List ℕ} {c : Decision} → Decided (positions_of start rows) ends span n w c → c.sum.segments ≤ 65535
  segments_few k = omega (arith, k.sum.segments _ _ k.held, parts_few (plan_parts (positions_of start rows) ends (divided_narrow d)), length_positions start rows, d.few)

-- what was decided is the plan's
module _ (start end : ℕ) (rows seeds : List ℕ) {span n : ℕ} {w : List ℕ} {c : Decision} (s : span ≡ end - start) (k : Decided (positions_of start rows) (ends_of rows seeds) span n w c) where
  decided_form : c.form ≡ planned_form start end rows seeds
  unfolding planned_form planned_segments
  decided_form = k.form ∙ rw s

  pub decided_late : (j limit room : ℕ) → j ≡ late_number c.form.bytes limit room → j ≡ late_number (planned_form start end rows seeds).bytes limit room
  decided_late j limit room e = e ∙ rw decided_form

  pub decided_values : accepted (planned_values c.form c.sum.segments c.offers) ≡ accepted (planned_values (planned_form start end rows seeds) (length (planned_segments start rows seeds)) (planned_offers start rows seeds))
  unfolding planned_segments planned_offers
  decided_values = rw (decided_form, k.sum.segments _ _ k.held, k.offers)

  pub decided_body : {out after : List ℕ} {r : ℕ} → length (layout_by c.form span (positions_of start rows) (segments_of (positions_of start rows) (ends_of rows seeds))) ≤ length out
      → Laid n w start rows span c.form out after r → after ≡ over (planned_body start end rows seeds) out
  unfolding planned_body planned_segments body_of
  decided_body {out} {after} h l =
      let segs = segments_of (positions_of start rows) (ends_of rows seeds) in
      let whole : after ≡ over (layout_by c.form span (positions_of start rows) segs) out = (l.written segs k.held).stands ∙ sets_front _ out h in
      rw (k.form, s) at whole
