-- What the calls by reference promise, and that two results which meet it are equal: the answer, the record that is left, and the table that is left.
-- Assumes nothing.
use Rattle.std.proofs.Common.{◌≡◌, ℕ, List, length, sym, refl, ap, ◌∙◌, arith}
use Rattle.std.specs.Prelude.{Result, Ok, Err}
use Rattle.model.specs.Answers.{Answer}
use Rattle.model.specs.declared.refusal.Refusal.{Refusal}
use Rattle.model.proofs.Answers.{same_number, same_size}
use Rattle.gather_core.specs.declared.Gatherer.{Gatherer}
use Rattle.gather_core.specs.Gather.{row_answer, row_table, page_answer, page_table}
use Rattle.gather.specs.Records.{added_answer, row_record, page_record}
use Rattle.gather.proofs.Answers.{same_refusal}

-- the answer, the record and the table that document 01 wants
abbrev pub Wanted : Type 0
Wanted = Answer × (Gatherer × List ℕ)

abbrev pub of_row : Gatherer → List ℕ → ℕ → Wanted
of_row g t row = (row_answer g (length t) row, (row_record g (length t) row, row_table g t row))

abbrev pub of_page : Gatherer → List ℕ → List ℕ → Wanted
of_page g t rows = (page_answer g (length t) rows, (page_record g (length t) rows, page_table g t rows))

-- a result is as wanted: the three clauses of a contract
abbrev pub Said : Wanted → Result (Unit {0}) Refusal → Gatherer → List ℕ → Type 0
Said w a g t = (added_answer a g ≡ w.0) × ((g ≡ w.1.0) × (t ≡ w.1.1))

pub added-same : (a b : Result (Unit {0}) Refusal) (g h : Gatherer) → added_answer a g ≡ added_answer b h → a ≡ b
added-same (Ok x) (Ok y) g h e = refl
added-same (Ok x) (Err s) g h e = absurd (omega (arith, same_size e))
added-same (Err r) (Ok y) g h e = absurd (omega (arith, same_size e))
added-same (Err r) (Err s) g h e = ap Err (same_refusal r s (same_number e))

-- so the contracts state one result
pub results_same : (w : Wanted) (a b : Result (Unit {0}) Refusal) (g h : Gatherer) (t u : List ℕ) → Said w a g t → Said w b h u → (a ≡ b) × ((g ≡ h) × (t ≡ u))
results_same w a b g h t u m n = (added-same a b g h (m.0 ∙ sym n.0), (m.1.0 ∙ sym n.1.0, m.1.1 ∙ sym n.1.1))
