-- Demand 1: what a refusal leaves. No output, table or record is changed by one; the workspace is as document 01 says for its number;
-- and what lies in an output beyond the answer stays.
-- Assumes nothing.
use mathlib.Core.Path.{◌≡◌, refl, ◌∙◌}
use mathlib.Core.Bool.{true, false}
use mathlib.Core.Logic.{◌⊎◌, inl, inr, ⊎_elim}
use mathlib.Core.List.{List, []}
use Prim.Native.Nat.{ℕ, zero, suc, ◌*◌, ◌≤◌}
use native.Mathlib.Omega.{arith}
use lib.Dec.{eqb, leb}
use lib.ListN.{length, length-replicate}
use borrow.Author.Tests.{eqb-true, eqb-false, le-leb}
use Rattle.model.specs.Tests.{pick, both}
use Rattle.model.specs.Lists.{walk_of}
use Rattle.model.specs.Answers.{Answer, refused, over, ranks_of}
use Rattle.model.proofs.Tests.{either, pick_true, pick_false, both_second}
use Rattle.directory.specs.declared.Segment.{Segment}
use Rattle.bodies.specs.Bodies.{accepts, names}
use Rattle.rowset.specs.Calls.{asked, ranks_answer, ranks_left, walk_answer, walk_left}
use Rattle.model.proofs.Ranking.{length_ranks}
use Rattle.tables.specs.Tables.{entries_of, segments_answer, segments_left}
use Rattle.gather_core.specs.declared.Gatherer.{Gatherer}
use Rattle.gather_core.specs.Gather.{answered, kept, row_answer, row_table, page_answer, page_table}
use Rattle.gather.specs.Records.{row_record, page_record}
use Rattle.planning.specs.Refusals.{ends_of, early_number}
use Rattle.planning.specs.Planning.{planned_form, planned_body, planned_values, late_number, plan_number, plan_of, plan_out, plan_work}
use Rattle.planning.specs.Planning as planning
use Rattle.planning.proofs.Accepted.{planned, plan_number_lem}
use Rattle.planning.proofs.Dividing.{early_divided}
use Rattle.deletion.specs.Reading as section
use Rattle.deletion.specs.Striking.{no_deletions, strikes, strike_of, strike_out, strike_work}
use Rattle.deletion.specs.declared.Coded.{Coded}
use Rattle.std.specs.Prelude.{Option}
use Rattle.planning.proofs.Sound.{early_most}
use Rattle.demands.specs.Demands.{Kept, written, bytes_in, Zeroed}
use Rattle.demands.proofs.Choices.{by_test, together, pick-both, over_beyond}

-- ---- reading

module _ (tag span : ℕ) (body : List ℕ) where
  pub ranks_kept : (positions old : List ℕ) → Kept (written (ranks_answer tag span body positions (length old))) (ranks_answer tag span body positions (length old)) old (ranks_left tag span body positions old)
  unfolding ranks_answer ranks_left asked
  ranks_kept positions old =
      together (λ (w : Answer) (new : List ℕ). Kept (written w) w old new) (accepts tag span body)
      (together (λ (w : Answer) (new : List ℕ). Kept (written w) w old new) (leb (length positions) (length old))
      ((λ h. absurd (h refl)), over_beyond (ranks_of (names tag span body) positions) old (length positions) (length_ranks (names tag span body) positions))
      ((λ h. refl), refl))
      ((λ h. refl), refl)

  pub walk_kept : (from : ℕ) (old : List ℕ) → Kept (written (walk_answer tag span body from (length old))) (walk_answer tag span body from (length old)) old (walk_left tag span body from old)
  unfolding walk_answer walk_left asked
  walk_kept from old =
      together (λ (w : Answer) (new : List ℕ). Kept (written w) w old new) (accepts tag span body)
      ((λ h. absurd (h refl)), over_beyond (walk_of (names tag span body) from (length old)) old _ refl)
      ((λ h. refl), refl)

  pub segments_kept : (old : List Segment) → Kept (written (segments_answer tag span body (length old))) (segments_answer tag span body (length old)) old (segments_left tag span body old)
  unfolding segments_answer segments_left asked
  segments_kept old =
      together (λ (w : Answer) (new : List Segment). Kept (written w) w old new) (accepts tag span body)
      (together (λ (w : Answer) (new : List Segment). Kept (written w) w old new) (leb (length (entries_of tag body)) (length old))
      ((λ h. absurd (h refl)), over_beyond (entries_of tag body) old _ refl)
      ((λ h. refl), refl))
      ((λ h. refl), refl)

-- ---- gathering: the table, and the record that was lent. That no other entry changes is `row_elsewhere` and `page_elsewhere` of gather

refused-kept : {A : Type 0} (n : ℕ) (g : Gatherer) (old new : A) → ((answered n g).number ≡ 0 → ⊥) → kept n old new ≡ old
unfolding answered kept
refused-kept zero g old new h = absurd (h refl)
refused-kept (suc n) g old new h = refl

module _ (g : Gatherer) (table : List ℕ) where
  pub row_kept : (row : ℕ) → ((row_answer g (length table) row).number ≡ 0 → ⊥) → (row_table g table row ≡ table) × (row_record g (length table) row ≡ g)
  unfolding row_answer row_table row_record
  row_kept row h = (refused-kept _ _ _ _ h, refused-kept _ _ _ _ h)

  pub page_kept : (rows : List ℕ) → ((page_answer g (length table) rows).number ≡ 0 → ⊥) → (page_table g table rows ≡ table) × (page_record g (length table) rows ≡ g)
  unfolding page_answer page_table page_record
  page_kept rows h = (refused-kept _ _ _ _ h, refused-kept _ _ _ _ h)

-- ---- planning

late_numbers : (bytes limit room : ℕ) → (late_number bytes limit room ≡ 0) ⊎ ((6 ≤ late_number bytes limit room) × (late_number bytes limit room ≤ 7))
unfolding late_number
late_numbers bytes limit room =
    ⊎_elim
    (λ e.
    ⊎_elim
    (λ f. inl (pick_true _ _ e ∙ pick_true {A = ℕ} 0 7 f))
    (λ f. inr (rw (pick_true (pick {A = ℕ} (leb bytes room) 0 7) 6 e, pick_false {A = ℕ} 0 7 f) (omega arith, omega arith)))
    (either (leb bytes room)))
    (λ e. inr (rw (pick_false (pick {A = ℕ} (leb bytes room) 0 7) 6 e) (omega arith, omega arith)))
    (either (both (leb bytes limit) (leb bytes 65535)))

module _ (start end : ℕ) (rows seeds : List ℕ) (limit : ℕ) (work out : List ℕ) where
  abbrev answer : Answer
  answer = plan_of start end rows seeds limit (length work) (length out)

  abbrev before : ℕ
  before = early_number start end rows seeds (length work)

  abbrev after : ℕ
  after = late_number (planned_form start end rows seeds).bytes limit (length out)

  -- the tests 1 to 5 answer, or they pass and 6 and 7 answer
  two_ways : ((1 ≤ answer.number) × (answer.number ≤ 5) × (eqb before 0 ≡ false)) ⊎ (((answer.number ≡ 0) ⊎ ((6 ≤ answer.number) × (answer.number ≤ 7))) × (eqb before 0 ≡ true))
  unfolding plan_number
  two_ways =
      let e = plan_number_lem start end rows seeds limit (length work) (length out) in
      ⊎_elim
      (λ q. inr (rw (e, pick_true after before q) (late_numbers (planned_form start end rows seeds).bytes limit (length out)), q))
      (λ q.
      let same : answer.number ≡ before = e ∙ pick_false after before q in
      let some : before ≡ 0 → ⊥ = eqb-false before 0 q in
      inl (omega (arith, some), omega (arith, early_most start end rows seeds (length work)), q))
      (either (eqb before 0))

  pub plan_kept : Kept (bytes_in answer) answer out (plan_out start end rows seeds limit (length work) out)
  unfolding plan_out planning.answered plan_of planned_values
  plan_kept =
      let number = plan_number start end rows seeds limit (length work) (length out) in
      by_test (λ (w : Answer) (new : List ℕ). Kept (bytes_in w) w out new) (eqb number 0)
      (λ e.
      ((λ h. absurd (h refl)), over_beyond (planned_body start end rows seeds) out _ (planned start end rows seeds limit (length work) (length out) (eqb-true number 0 e)).sized))
      (λ e. ((λ h. refl), refl))

  -- refusals 1 to 5 leave the workspace unchanged
  pub plan_work-kept : 1 ≤ answer.number → answer.number ≤ 5 → plan_work start end rows seeds work ≡ work
  unfolding plan_work
  plan_work-kept some few =
      ⊎_elim
      (λ p. pick_false _ _ p.2)
      (λ p. ⊎_elim (λ z. absurd (omega arith)) (λ l. absurd (omega (arith, l.0))) p.0)
      two_ways

  -- 6, 7 and acceptance leave its first 24 words a seed zero
  pub plan_work_zeroed : (answer.number ≡ 0) ⊎ (6 ≤ answer.number) → Zeroed (length (ends_of rows seeds)) work (plan_work start end rows seeds work)
  unfolding plan_work over
  plan_work_zeroed late =
      ⊎_elim
      (λ p. ⊎_elim (λ z. absurd (omega (arith, p.0))) (λ l. absurd (omega (arith, p.1))) late)
      (λ p.
      let n = length (ends_of rows seeds) * 24 in (
        (early_divided start end rows seeds (length work) (eqb-true before 0 p.1)).room,
        pick_true _ _ p.1 ∙ rw (length-replicate {A = ℕ} n 0),
      ))
      two_ways

  plan_most : answer.number ≤ 7
  plan_most = ⊎_elim (λ p. omega (arith, p.1)) (λ p. ⊎_elim (λ z. omega arith) (λ l. omega (arith, l.1)) p.0) two_ways

-- ---- the deletion view

module _ (rows limit : ℕ) where
  pub walk_deletions_kept : (s : Option Coded) (body : List ℕ) (from : ℕ) (old : List ℕ)
      → Kept (written (section.walk_answer rows limit s body from (length old))) (section.walk_answer rows limit s body from (length old)) old (section.walk_left rows limit s body from old)
  unfolding section.walk_answer section.walk_left planning.answered
  walk_deletions_kept s body from old =
      together (λ (w : Answer) (new : List ℕ). Kept (written w) w old new) (eqb (section.section_number rows limit s body) 0)
      ((λ h. absurd (h refl)), over_beyond (walk_of (section.deleted_of rows s body) from (length old)) old _ refl)
      ((λ h. refl), refl)

  module _ (ordinals work out : List ℕ) where
    abbrev struck : Answer
    struck = strike_of rows limit ordinals (length work) (length out)

    abbrev plan : Answer
    plan = plan_of 0 rows ordinals [] (section.body_limit rows) (length work) (length out)

    -- a statement that holds of a plan, of no deletions and of refusal 9, with what is left by each
    struck_as : (P : Answer → List ℕ → Type 0) (old new : List ℕ) → P plan new → P no_deletions old → P (refused 9) old → P struck (pick (strikes rows limit ordinals) new old)
    unfolding strike_of strikes
    struck_as P old new p q r =
        rw (pick-both (section.block_fits rows limit) (leb 1 (length ordinals)) new old)
        (together P (section.block_fits rows limit) (together P (leb 1 (length ordinals)) p q) r)

    pub strike_kept : Kept (bytes_in struck) struck out (strike_out rows limit ordinals (length work) out)
    unfolding strike_out
    strike_kept =
        struck_as (λ w new. Kept (bytes_in w) w out new) out _
        (plan_kept 0 rows ordinals [] (section.body_limit rows) work out) ((λ h. refl), refl) ((λ h. refl), refl)

    -- refusals 1 to 5 and 9 leave the workspace unchanged
    pub strike_work-kept : (struck.number ≡ 9) ⊎ ((1 ≤ struck.number) × (struck.number ≤ 5)) → strike_work rows limit ordinals work ≡ work
    unfolding strike_work
    strike_work-kept =
        struck_as (λ w new. (w.number ≡ 9) ⊎ ((1 ≤ w.number) × (w.number ≤ 5)) → new ≡ work) work _
        (⊎_elim
        (λ e. absurd (omega (arith, plan_most 0 rows ordinals [] (section.body_limit rows) work out)))
        (λ h. plan_work-kept 0 rows ordinals [] (section.body_limit rows) work out h.0 h.1))
        (λ h. refl)
        (λ h. refl)

    -- 7 and a plan that was made leave its first 24 words a seed zero
    pub strike_work_zeroed : 1 ≤ length ordinals → (struck.number ≡ 0) ⊎ (struck.number ≡ 7) → Zeroed (length (ends_of ordinals [])) work (strike_work rows limit ordinals work)
    unfolding strike_work strike_of strikes
    strike_work_zeroed some =
        rw (pick-both (section.block_fits rows limit) (leb 1 (length ordinals)) (plan_work 0 rows ordinals [] work) work, pick_true plan no_deletions (le-leb 1 (length ordinals) some), pick_true (plan_work 0 rows ordinals [] work) work (le-leb 1 (length ordinals) some))
        (together (λ (w : Answer) (new : List ℕ). (w.number ≡ 0) ⊎ (w.number ≡ 7) → Zeroed (length (ends_of ordinals [])) work new) (section.block_fits rows limit)
        (λ h. plan_work_zeroed 0 rows ordinals [] (section.body_limit rows) work out (⊎_elim (λ z. inl z) (λ s. inr (omega arith)) h))
        (⊎_elim (λ z. absurd (omega arith)) (λ s. absurd (omega arith))))

  -- no deletions: nothing is written, the workspace included
  pub strike_nothing : (work out : List ℕ) → (strike_out rows limit [] (length work) out ≡ out) × (strike_work rows limit [] work ≡ work)
  unfolding strike_out strike_work strikes
  strike_nothing work out =
      let none = both_second (section.block_fits rows limit) (leb 1 0) refl in
      (pick_false _ _ none, pick_false _ _ none)
