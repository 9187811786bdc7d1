-- Demand 1: the number that each public call answers is that of the first test that does not pass, in document 01's order, or 0.
-- Assumes nothing.
use mathlib.Core.Path.{◌≡◌, refl, sym, ap, ◌∙◌}
use mathlib.Core.Bool.{Bool, true, not}
use mathlib.Core.List.{List, [], ◌∷◌}
use Prim.Native.Nat.{ℕ, zero, suc, ◌+◌, ◌≤◌}
use native.Mathlib.Nat.{le_trans}
use native.Mathlib.Omega.{arith}
use lib.Dec.{eqb, leb, ltb}
use lib.ListN.{length}
use borrow.Author.Tests.{eq-eqb, ne_eqb, le-leb, leb-true}
use Rattle.model.specs.Tests.{pick, both}
use Rattle.model.specs.Answers.{Answer, accepted, refused}
use Rattle.model.proofs.Tests.{pick_true, pick_false, both_true, both_left}
use Rattle.bodies.specs.Bodies.{accepts, names}
use Rattle.rowset.specs.Calls.{asked, validate_of, rank_answer, select_answer, ranks_answer, walk_answer, segment_answer}
use Rattle.tables.specs.Tables.{entries_of, segments_answer}
use Rattle.gather_core.specs.declared.Gatherer.{Gatherer}
use Rattle.gather_core.specs.Gather.{answered, impossible, above, rises, first_of, early, late, or_else, added, paged, row_number, row_answer, some_number, page_number, page_answer}
use Rattle.planning.specs.Refusals.{coverage_fits, count_fits, rows_fit, given_fit, room_fits, early_number}
use Rattle.planning.specs.Planning.{planned_form, late_number, plan_number, plan_of}
use Rattle.planning.proofs.Accepted.{answered-number, plan_number_lem}
use Rattle.seeds.proofs.Ends.{none_fit}
use Rattle.seeds.proofs.Judging.{ordinals_some}
use Rattle.deletion.specs.Reading as section
use Rattle.deletion.specs.Striking.{no_deletions, strike_of}
use Rattle.deletion.proofs.Bound.{planned_short, limit_short}
use Rattle.deletion.specs.declared.Coded.{Coded}
use Rattle.std.specs.Prelude.{Option, None, Some}
use Rattle.demands.specs.Demands.{first_due, taken, plan_tests}
use Rattle.demands.proofs.Choices.{by_test, pick-number, pick_not, pick_then, pick_else}

-- ---- reading: 8, then 7

module _ (tag span : ℕ) (body : List ℕ) where
  asked_order : (w : Answer) → (asked tag span body w).number ≡ pick (accepts tag span body) w.number 8
  unfolding asked
  asked_order w = pick-number (accepts tag span body) w (refused 8)

  -- 7 where the output has less room than is needed
  room_order : (need room : ℕ) → (asked tag span body (pick (leb need room) (accepted (need ∷ [])) (refused 7))).number ≡ first_due (taken tag span body ∷ (leb need room, 7) ∷ [])
  unfolding first_due
  room_order need room = asked_order _ ∙ ap (λ (n : ℕ). pick (accepts tag span body) n 8) (pick-number (leb need room) (accepted (need ∷ [])) (refused 7))

  pub validate_order : (validate_of tag span body).number ≡ first_due (taken tag span body ∷ [])
  unfolding validate_of first_due
  validate_order = asked_order _

  pub rank_order : (p : ℕ) → (rank_answer tag span body p).number ≡ first_due (taken tag span body ∷ [])
  unfolding rank_answer first_due
  rank_order p = asked_order _

  pub select_order : (k : ℕ) → (select_answer tag span body k).number ≡ first_due (taken tag span body ∷ [])
  unfolding select_answer first_due
  select_order k = asked_order _

  pub walk_order : (k room : ℕ) → (walk_answer tag span body k room).number ≡ first_due (taken tag span body ∷ [])
  unfolding walk_answer first_due
  walk_order k room = asked_order _

  pub segment_order : (i : ℕ) → (segment_answer tag span body i).number ≡ first_due (taken tag span body ∷ [])
  unfolding segment_answer first_due
  segment_order i = asked_order _

  pub ranks_order : (positions : List ℕ) (room : ℕ) → (ranks_answer tag span body positions room).number ≡ first_due (taken tag span body ∷ (leb (length positions) room, 7) ∷ [])
  unfolding ranks_answer
  ranks_order positions room = room_order (length positions) room

  pub segments_order : (room : ℕ) → (segments_answer tag span body room).number ≡ first_due (taken tag span body ∷ (leb (length (entries_of tag body)) room, 7) ∷ [])
  unfolding segments_answer
  segments_order room = room_order (length (entries_of tag body)) room

-- ---- gathering: 12, 3, 2, 11

answered_is : (n : ℕ) (g : Gatherer) → (answered n g).number ≡ n
unfolding answered
answered_is zero g = refl
answered_is (suc n) g = refl

module _ (g : Gatherer) (room : ℕ) where
  number_order : (rising : Bool) (n : ℕ) (after : Gatherer) → or_else (early g room rising n) (late after room)
      ≡ first_due ((not (impossible g room), 12) ∷ (rising, 3) ∷ (not (ltb 65535 (g.rows + n)), 2) ∷ (not (ltb room after.entries), 11) ∷ [])
  unfolding early late first_due or_else
  number_order rising n after =
      rw (pick_not (impossible g room), pick_not (ltb 65535 (g.rows + n)), pick_not (ltb room after.entries))
      (pick_else (not (impossible g room)) 11 _ _
      ∙ ap (λ (k : ℕ). pick (not (impossible g room)) k 12)
      (pick_else rising 2 _ _ ∙ ap (λ (k : ℕ). pick rising k 3) (pick_else (not (ltb 65535 (g.rows + n))) 1 0 _)))

  pub row_order : (row : ℕ) → (row_answer g room row).number
      ≡ first_due ((not (impossible g room), 12) ∷ (above g row, 3) ∷ (not (ltb 65535 (g.rows + 1)), 2) ∷ (not (ltb room (added g row).entries), 11) ∷ [])
  unfolding row_answer row_number
  row_order row = answered_is _ _ ∙ number_order (above g row) 1 (added g row)

  -- a page that is not empty
  pub page_order : (rows : List ℕ) → 1 ≤ length rows → (page_answer g room rows).number
      ≡ first_due ((not (impossible g room), 12) ∷ (both (above g (first_of rows)) (rises rows), 3) ∷ (not (ltb 65535 (g.rows + length rows)), 2) ∷ (not (ltb room (paged g rows).entries), 11) ∷ [])
  unfolding page_answer page_number some_number
  page_order rows some =
      let more : length rows ≡ 0 → ⊥ = λ z. omega arith in
      answered_is _ _ ∙ pick_false _ _ (ne_eqb (length rows) 0 more) ∙ number_order (both (above g (first_of rows)) (rises rows)) (length rows) (paged g rows)

  -- after test 12 an empty page is accepted
  pub empty_page_order : (page_answer g room []).number ≡ first_due ((not (impossible g room), 12) ∷ [])
  unfolding page_answer page_number first_due
  empty_page_order = answered_is _ _ ∙ pick_true _ _ (eq-eqb 0 0 refl) ∙ pick_not (impossible g room) 12 0

-- ---- planning: 1 to 7

module _ (start end : ℕ) (rows seeds : List ℕ) (limit words room : ℕ) where
  abbrev bytes : ℕ
  bytes = (planned_form start end rows seeds).bytes

  pub plan_order : (plan_of start end rows seeds limit words room).number ≡ first_due (plan_tests start end rows seeds limit words room)
  unfolding plan_number early_number late_number first_due
  plan_order =
      let later = late_number bytes limit room in
      plan_number_lem start end rows seeds limit words room
      ∙ pick_then (coverage_fits start end) 1 _ later (λ z. omega arith)
      ∙ ap (λ (n : ℕ). pick (coverage_fits start end) n 1)
      (pick_then (count_fits rows) 2 _ later (λ z. omega arith)
      ∙ ap (λ (n : ℕ). pick (count_fits rows) n 2)
      (pick_then (rows_fit start end rows) 3 _ later (λ z. omega arith)
      ∙ ap (λ (n : ℕ). pick (rows_fit start end rows) n 3)
      (pick_then (given_fit rows seeds) 4 _ later (λ z. omega arith)
      ∙ ap (λ (n : ℕ). pick (given_fit rows seeds) n 4)
      (pick_then (room_fits rows seeds words) 5 0 later (λ z. omega arith)
      ∙ ap (λ (n : ℕ). pick (room_fits rows seeds words) n 5) (pick_true later 0 (eq-eqb 0 0 refl))))))

-- ---- the deletion view: 9, then 8, then 10 in reading; 9, then planning's

module _ (rows limit : ℕ) where
  pub section_order : (count tag : ℕ) (body : List ℕ) → (section.check_answer rows limit (Some (record { count = count; tag = tag })) body).number
      ≡ first_due ((both (section.block_fits rows limit) (section.stated_fit rows count (length body)), 9) ∷ (accepts tag rows body, 8) ∷ (eqb (length (names tag rows body)) count, 10) ∷ [])
  unfolding section.check_answer section.section_number section.coded_number first_due
  section_order count tag body = answered-number _ _

  pub empty_section_order : (body : List ℕ) → (section.check_answer rows limit None body).number ≡ first_due ((section.block_fits rows limit, 9) ∷ [])
  unfolding section.check_answer section.section_number first_due
  empty_section_order body = answered-number _ _

  -- the other reading calls answer the same number
  pub contains-number : (s : Option Coded) (body : List ℕ) (o : ℕ) → (section.contains_answer rows limit s body o).number ≡ (section.check_answer rows limit s body).number
  unfolding section.contains_answer section.check_answer
  contains-number s body o = answered-number _ _ ∙ sym (answered-number _ _)

  pub walk_deletions_number : (s : Option Coded) (body : List ℕ) (k room : ℕ) → (section.walk_answer rows limit s body k room).number ≡ (section.check_answer rows limit s body).number
  unfolding section.walk_answer section.check_answer
  walk_deletions_number s body k room = answered-number _ _ ∙ sym (answered-number _ _)

  strike_tests : (ordinals : List ℕ) (words room : ℕ) → 1 ≤ length ordinals
      → (strike_of rows limit ordinals words room).number ≡ first_due ((section.block_fits rows limit, 9) ∷ plan_tests 0 rows ordinals [] (section.body_limit rows) words room)
  unfolding strike_of first_due
  strike_tests ordinals words room some =
      pick-number (section.block_fits rows limit) _ (refused 9)
      ∙ ap (λ (a : Answer). pick (section.block_fits rows limit) a.number 9) (pick_true (plan_of 0 rows ordinals [] (section.body_limit rows) words room) no_deletions (le-leb 1 (length ordinals) some))
      ∙ ap (λ (n : ℕ). pick (section.block_fits rows limit) n 9) (plan_order 0 rows ordinals [] (section.body_limit rows) words room)

  -- of planning's tests 1, 4 and 6 are always met: a block that passes test 9 is a coverage, no seeds are given, and no plan is longer than a bitmap
  -- of all rows
  pub strike_order : (ordinals : List ℕ) (words room : ℕ) → rows ≤ 65535 → 1 ≤ length ordinals
      → (strike_of rows limit ordinals words room).number
      ≡ first_due
      ((section.block_fits rows limit, 9) ∷ (count_fits ordinals, 2) ∷ (rows_fit 0 rows ordinals, 3) ∷ (room_fits ordinals [] words, 5)
      ∷ (leb (planned_form 0 rows ordinals []).bytes room, 7) ∷ [])
  unfolding first_due section.block_fits pick
  strike_order ordinals words room small some =
      let bytes = (planned_form 0 rows ordinals []).bytes in
      let long : both (leb bytes (section.body_limit rows)) (leb bytes 65535) ≡ true =
      let short = planned_short rows ordinals in
      both_true _ _ (le-leb _ _ short) (le-leb _ _ (le_trans short (limit_short rows small))) in
      strike_tests ordinals words room some
      ∙ by_test (λ (a b : ℕ). a ≡ b) (section.block_fits rows limit)
      (λ e. rw (ordinals_some rows (λ z. omega (arith, leb-true 1 rows (both_left _ _ e))) small, none_fit ordinals [] refl, long))
      (λ e. refl)

  -- without deletions, 9 alone
  pub strike_none_order : (words room : ℕ) → (strike_of rows limit [] words room).number ≡ first_due ((section.block_fits rows limit, 9) ∷ [])
  unfolding strike_of first_due
  strike_none_order words room =
      pick-number (section.block_fits rows limit) _ (refused 9) ∙ ap (λ (a : Answer). pick (section.block_fits rows limit) a.number 9) (pick_false _ no_deletions refl)
