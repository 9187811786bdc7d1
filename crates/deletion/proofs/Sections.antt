-- A section that no test refuses: its body is accepted with the stated count. And the answers: refused by number, or asked.
-- Assumes nothing.
use mathlib.Core.Path.{◌≡◌, refl, sym, ◌∙◌}
use mathlib.Core.Bool.{true}
use mathlib.Core.List.{List}
use Prim.Native.Nat.{ℕ}
use native.Mathlib.Omega.{arith}
use lib.Dec.{eqb}
use lib.ListN.{length}
use borrow.Author.Tests.{eq-eqb, ne_eqb, eqb-true}
use Rattle.model.specs.Tests.{pick}
use Rattle.model.specs.Answers.{accepted, refused}
use Rattle.model.proofs.Tests.{pick_true, pick_false, both_true, both_left, both_right}
use Rattle.gather_core.proofs.Admitted.{passes}
use Rattle.bodies.specs.Bodies.{accepts}
use Rattle.planning.specs.Planning.{answered}
use Rattle.planning.proofs.Accepted.{answered_none, answered_some}
use Rattle.deletion.specs.Reading.{coded_number, section_number, deleted_of, stated_of, sound}
use Rattle.std.specs.Prelude.{Option, Some, None}
use Rattle.model.specs.Refusals.{number_of}
use Rattle.model.specs.declared.refusal.Refusal.{Refusal}
use Rattle.rowset.proofs.Same.{number_not}
use Rattle.deletion.specs.declared.Coded.{Coded}

-- ---- refused, or asked: r is the number that the tests gave

module _ {r n : ℕ} (e : r ≡ n) where
  pub refuses : (vs : List ℕ) → (r ≡ 0 → ⊥) → refused r ≡ answered n vs
  refuses vs h = rw (← e) (sym (answered_some r vs h))

  pub answers : {vs ws : List ℕ} → r ≡ 0 → vs ≡ ws → accepted vs ≡ answered n ws
  answers h q = rw q (sym (answered_none n _ (sym e ∙ h)))

  -- what is lent: kept as it was, or written
  pub keeps : (new old : List ℕ) → (r ≡ 0 → ⊥) → old ≡ pick (eqb n 0) new old
  keeps new old h = rw (← e) (sym (pick_false _ _ (ne_eqb r 0 h)))

  pub leaves : {out new : List ℕ} (old : List ℕ) → r ≡ 0 → out ≡ new → out ≡ pick (eqb n 0) new old
  leaves old h q = q ∙ sym (pick_true _ _ (eq-eqb n 0 (sym e ∙ h)))

-- ---- passed on: the refusal that the tests gave

pub passed : (r : Refusal) (n : ℕ) (vs : List ℕ) → number_of r ≡ n → refused (number_of r) ≡ answered n vs
passed r n vs e = refuses e vs (number_not r)

pub kept : (r : Refusal) (n : ℕ) (new old : List ℕ) → number_of r ≡ n → old ≡ pick (eqb n 0) new old
kept r n new old e = keeps e new old (number_not r)

-- ---- a section that no test refuses

pub number-sound : (rows limit : ℕ) (s : Option Coded) (body : List ℕ) → section_number rows limit s body ≡ 0 → sound rows s body ≡ true
unfolding section_number coded_number sound
number-sound rows limit None body e = refl
number-sound rows limit (Some s) body e =
    let inner = (passes _ 9 _ (λ z. omega arith) e).1 in
    let last = passes _ 8 _ (λ z. omega arith) inner in
    both_true _ _ last.0 (passes _ 10 0 (λ z. omega arith) last.1).0

-- the stated count is the number of deleted ordinals
pub sound_count : (rows : ℕ) (s : Option Coded) (body : List ℕ) → sound rows s body ≡ true → stated_of s ≡ length (deleted_of rows s body)
unfolding sound stated_of deleted_of
sound_count rows None body e = refl
sound_count rows (Some s) body e = sym (eqb-true _ _ (both_right _ _ e))

module _ (rows : ℕ) (body : List ℕ) {s : Option Coded} {coded : Coded} (q : s ≡ Some coded) (e : sound rows s body ≡ true) where
  pub coded_accepted : accepts coded.tag rows body ≡ true
  unfolding sound
  coded_accepted = both_left _ _ (rw q at e)
