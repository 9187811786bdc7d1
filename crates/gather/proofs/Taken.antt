-- A step gives the answer, the record and the table that document 01 asks for.
-- Assumes nothing.
use Rattle.std.proofs.Common.{◌≡◌, ℕ, zero, suc, List, length, sym, refl, ap, arith, ne_eqb}
use Rattle.std.specs.Prelude.{true, false, Result, Ok, Err}
use Rattle.model.specs.Answers.{Answer, accepted, refused}
use Rattle.model.specs.Refusals.{number_of, answer_of}
use Rattle.model.specs.declared.refusal.Refusal.{Refusal}
use Rattle.model.proofs.Tests.{never, pick_false}
use Rattle.model.proofs.Answers.{same_number, same_size}
use Rattle.gather_core.specs.declared.Gatherer.{Gatherer}
use Rattle.gather_core.specs.Gather.{values_of, answered, kept, added, added_to, row_number, row_answer, row_table, paged, paged_to, some_number, page_answer, page_table, Goes, GoesIn}
use Rattle.gather.specs.Records.{added_answer, row_record, page_record, step_of, went_on}
use Rattle.gather_core.proofs.Admitted.{added-joins, answered_yes, answered_no, kept_new, kept_old}
use Rattle.gather_core.proofs.Pages.{some_number_lem, some_answer, some_table}
use Rattle.gather.proofs.Answers.{refuses, of_values}

-- the answer is the by-value one
pub taken_answer : (old : Gatherer) (c : Result Gatherer Refusal) → added_answer (step_of old c).answer (step_of old c).after ≡ answer_of values_of c
unfolding step_of
taken_answer old (Ok g) = refl
taken_answer old (Err r) = refl

-- and the record is the new one, or the old one where a number refuses
pub taken_record : (old new : Gatherer) (n : ℕ) (c : Result Gatherer Refusal) → answer_of values_of c ≡ answered n new → (step_of old c).after ≡ kept n old new
unfolding answered kept step_of
taken_record old new zero (Ok g) e = ap (λ (x : Answer). of_values x.values) e
taken_record old new (suc n) (Ok g) e = absurd (omega (arith, same_number e))
taken_record old new zero (Err r) e = absurd (omega (arith, same_size e))
taken_record old new (suc n) (Err r) e = refl

-- ---- of a row that goes on in the last seed

-- nothing is said of it, where it is not said to go on
pub apart : {φ χ ψ J : Type 0} → φ × (χ × ψ) → φ × ((χ × (false ≡ true → J)) × ψ)
apart w = (w.0, ((w.1.0, λ t. never t refl), w.1.1))

-- where it does, no parts of the record are new but its row total and its last row

pub together : (g : Gatherer) (room row : ℕ) → Goes true g room row → (after : Gatherer) → after ≡ added g row → went_on g after ≡ after
together g room row o after e = rw (e, added-joins g row o.in_seed)

-- ---- where no test refuses

pub row_done : (g : Gatherer) (t : List ℕ) (row : ℕ) → row_number g (length t) row ≡ 0 → (after : Gatherer) (u : List ℕ) → (after ≡ added g row) × (u ≡ added_to t g row)
    → (accepted (values_of after) ≡ row_answer g (length t) row) × ((after ≡ row_record g (length t) row) × (u ≡ row_table g t row))
unfolding row_answer row_record row_table
row_done g t row z after u w = rw (w.0, w.1) (sym (answered_yes _ _ z), (sym (kept_new _ _ _ z), sym (kept_new _ _ _ z)))

pub page_done : (g : Gatherer) (t rows : List ℕ) → GoesIn g (length t) rows → (after : Gatherer) (u : List ℕ) → (after ≡ paged g rows) × (u ≡ paged_to t g rows)
    → (accepted (values_of after) ≡ page_answer g (length t) rows) × ((after ≡ page_record g (length t) rows) × (u ≡ page_table g t rows))
unfolding page_record
page_done g t rows o after u w =
    let n : length rows ≡ 0 → ⊥ = λ z. omega (arith, o.any) in
    let z = o.number in
    rw (w.0, w.1, some_answer g rows n (length t), some_table g rows n t, some_number_lem g rows n (length t), pick_false g (paged g rows) (ne_eqb (length rows) 0 n)) (sym (answered_yes _ _ z), (sym (kept_new _ _ _ z), sym (kept_new _ _ _ z)))

-- ---- where one does

refused_answer : (r : Refusal) (n : ℕ) (g : Gatherer) → number_of r ≡ n → refused (number_of r) ≡ answered n g
refused_answer r n g e = rw e (sym (answered_no n g (refuses r n e)))

refused_keeps : {A : Type 0} (r : Refusal) (n : ℕ) (old new : A) → number_of r ≡ n → old ≡ kept n old new
refused_keeps r n old new e = sym (kept_old n old new (refuses r n e))

pub row_refused : (g : Gatherer) (t : List ℕ) (row : ℕ) (r : Refusal) → number_of r ≡ row_number g (length t) row
    → (refused (number_of r) ≡ row_answer g (length t) row) × ((g ≡ row_record g (length t) row) × (t ≡ row_table g t row))
unfolding row_answer row_record row_table
row_refused g t row r e = (refused_answer r _ _ e, (refused_keeps r _ _ _ e, refused_keeps r _ _ _ e))

pub page_refused : (g : Gatherer) (t rows : List ℕ) → (length rows ≡ 0 → ⊥) → (r : Refusal) → number_of r ≡ some_number g (length t) rows
    → (refused (number_of r) ≡ page_answer g (length t) rows) × (t ≡ page_table g t rows)
page_refused g t rows n r e = rw (some_answer g rows n (length t), some_table g rows n t) (refused_answer r _ _ e, refused_keeps r _ _ _ e)
