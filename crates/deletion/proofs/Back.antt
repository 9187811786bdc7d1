-- What deletion planning writes, reading takes back: the front of the output is accepted with the number of deletions, holds exactly
-- those ordinals, and a walk writes them out again.
-- Assumes nothing.
use mathlib.Core.Path.{◌≡◌, refl, sym, ap, ◌∙◌}
use mathlib.Core.Bool.{true}
use mathlib.Core.Logic.{⊎_elim}
use mathlib.Core.List.{List, [], ◌∷◌}
use Prim.Native.Nat.{ℕ, ◌≤◌}
use native.Mathlib.Nat.{sub-zero}
use native.Mathlib.Omega.{arith}
use lib.Dec.{leb}
use lib.ListN.{length, take}
use lib.Seq.{take_all}
use borrow.Author.Tests.{le-leb, eq-eqb}
use Rattle.model.specs.Tests.{pick}
use Rattle.model.specs.Lists.{has, walk_of}
use Rattle.model.specs.Answers.{accepted, refused, over}
use Rattle.model.proofs.Tests.{either, pick_true, pick_false, both_true}
use Rattle.model.proofs.Rising.{rising_room}
use Rattle.model.proofs.Positions.{positions_zero}
use Rattle.model.proofs.Writing.{over-take}
use Rattle.model.proofs.Answers.{same_number}
use Rattle.bodies.specs.Bodies.{accepts}
use Rattle.planning.specs.Planning.{planned_form, planned_body, plan_number, plan_of, plan_out}
use Rattle.planning.proofs.Accepted.{Planned, planned, plan_divided, plan_number_lem}
use Rattle.deletion.specs.Reading.{body_limit, block_fits, stated_fit, coded_number, section_number, deleted_of, check_answer, contains_answer, walk_answer, walk_left}
use Rattle.deletion.specs.Striking.{no_deletions, strikes, strike_of, strike_out}
use Rattle.std.specs.Prelude.{Option, Some, None}
use Rattle.deletion.specs.declared.Coded.{Coded}
use Rattle.deletion.proofs.Sections.{answers, leaves}

-- the section that stands for a plan, and its body: as many bytes at the front of the output as the answer says
abbrev pub struck_section : ℕ → List ℕ → Option Coded
struck_section rows ordinals = Some (record { count = length ordinals; tag = (planned_form 0 rows ordinals []).tag })

abbrev pub struck_body : ℕ → ℕ → List ℕ → ℕ → List ℕ → List ℕ
struck_body rows limit ordinals words out = take (planned_form 0 rows ordinals []).bytes (strike_out rows limit ordinals words out)

-- an answer that is no refusal comes from a block that fits
strike_fits : (rows limit : ℕ) (ordinals : List ℕ) (words room : ℕ) → (strike_of rows limit ordinals words room).number ≡ 0 → block_fits rows limit ≡ true
unfolding strike_of
strike_fits rows limit ordinals words room ok =
    ⊎_elim
    (λ e. e)
    (λ e. let z : ◌≡◌ {A = ℕ} 9 0 = sym (same_number (pick_false (pick (leb 1 (length ordinals)) (plan_of 0 rows ordinals [] (body_limit rows) words room) no_deletions) (refused 9) e)) ∙ ok in absurd (omega arith))
    (either (block_fits rows limit))

module _ (rows limit : ℕ) (ordinals : List ℕ) (words : ℕ) (out : List ℕ) (some : 1 ≤ length ordinals) (ok : (strike_of rows limit ordinals words (length out)).number ≡ 0) where
  fits : block_fits rows limit ≡ true
  fits = strike_fits rows limit ordinals words (length out) ok

  same_answer_lem : strike_of rows limit ordinals words (length out) ≡ plan_of 0 rows ordinals [] (body_limit rows) words (length out)
  unfolding strike_of
  same_answer_lem = pick_true _ _ fits ∙ pick_true _ _ (le-leb 1 (length ordinals) some)

  number : plan_number 0 rows ordinals [] (body_limit rows) words (length out) ≡ 0
  number = sym (plan_number_lem 0 rows ordinals [] (body_limit rows) words (length out)) ∙ same_number (sym same_answer_lem) ∙ ok

  plan : Planned 0 rows ordinals [] (body_limit rows) (length out)
  plan = planned 0 rows ordinals [] (body_limit rows) words (length out) number

  pub struck_front : struck_body rows limit ordinals words out ≡ planned_body 0 rows ordinals []
  unfolding strike_out strikes plan_out
  struck_front =
      rw
      (pick_true (plan_out 0 rows ordinals [] (body_limit rows) words out) out (both_true _ _ fits (le-leb 1 (length ordinals) some)), pick_true (over (planned_body 0 rows ordinals []) out) out (eq-eqb _ 0 number), ← plan.sized)
      (over-take (planned_body 0 rows ordinals []) out)

  pub struck_named : deleted_of rows (struck_section rows ordinals) (struck_body rows limit ordinals words out) ≡ ordinals
  unfolding deleted_of
  struck_named = rw struck_front (rw (sub-zero rows) at plan.holds.named ∙ positions_zero ordinals)

  -- no test refuses it
  pub struck_taken : section_number rows limit (struck_section rows ordinals) (struck_body rows limit ordinals words out) ≡ 0
  unfolding section_number coded_number stated_fit deleted_of
  struck_taken =
      let d = plan_divided 0 rows ordinals [] (body_limit rows) words (length out) number in
      let most : length ordinals ≤ rows = omega (arith, rising_room (omega arith) d.rising) in
      let short : length (struck_body rows limit ordinals words out) ≤ body_limit rows = rw struck_front plan.in_limit in
      let stated = both_true _ _ (le-leb 1 _ some) (both_true _ _ (le-leb _ _ most) (le-leb _ _ short)) in
      let taken : accepts (planned_form 0 rows ordinals []).tag rows (struck_body rows limit ordinals words out) ≡ true = rw struck_front (rw (sub-zero rows) at plan.holds.accepted) in
      pick_true _ _ (both_true _ _ fits stated) ∙ pick_true _ _ taken ∙ pick_true 0 10 (eq-eqb _ _ (ap length struck_named))

  pub struck_count : check_answer rows limit (struck_section rows ordinals) (struck_body rows limit ordinals words out) ≡ accepted (length ordinals ∷ [])
  unfolding check_answer
  struck_count = sym (answers (sym struck_taken) refl (ap (λ (xs : List ℕ). length xs ∷ []) (sym struck_named)))

  pub struck_contains : (o : ℕ) → contains_answer rows limit (struck_section rows ordinals) (struck_body rows limit ordinals words out) o ≡ accepted (pick {A = ℕ} (has ordinals o) 1 0 ∷ [])
  unfolding contains_answer
  struck_contains o = sym (answers (sym struck_taken) refl (ap (λ (xs : List ℕ). pick {A = ℕ} (has xs o) 1 0 ∷ []) (sym struck_named)))

  pub struck_walk : (k n : ℕ) → walk_answer rows limit (struck_section rows ordinals) (struck_body rows limit ordinals words out) k n ≡ accepted (length (walk_of ordinals k n) ∷ [])
  unfolding walk_answer
  struck_walk k n = sym (answers (sym struck_taken) refl (ap (λ (xs : List ℕ). length (walk_of xs k n) ∷ []) (sym struck_named)))

  -- into an output that has room for them, the walk from the first writes the ordinals
  pub struck_back : (old : List ℕ) → length ordinals ≤ length old → walk_left rows limit (struck_section rows ordinals) (struck_body rows limit ordinals words out) 0 old ≡ over ordinals old
  unfolding walk_left
  struck_back old h =
      sym (leaves (sym struck_taken) old refl (ap (λ (xs : List ℕ). over xs old) (sym (ap (λ (xs : List ℕ). walk_of xs 0 (length old)) struck_named ∙ take_all (length old) ordinals h))))

-- no deletions: the answer is Empty, and the empty section has none
module _ (rows limit : ℕ) (fits : block_fits rows limit ≡ true) where
  pub none_empty : (words room : ℕ) → strike_of rows limit [] words room ≡ no_deletions
  unfolding strike_of
  none_empty words room = pick_true _ _ fits ∙ pick_false _ _ refl

  pub empty_count : (body : List ℕ) → check_answer rows limit None body ≡ accepted (0 ∷ [])
  unfolding check_answer section_number deleted_of
  empty_count body = sym (answers (sym (pick_true 0 9 fits)) refl refl)
