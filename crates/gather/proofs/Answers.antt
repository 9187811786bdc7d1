-- Two results with the same answer are equal, so the contracts of gathering state one result.
-- Assumes nothing.
use Rattle.std.proofs.Common.{◌≡◌, ℕ, ◌-◌, ◌≤◌, List, [], ◌∷◌, get_or, sym, refl, ap, ◌∙◌, arith}
use Rattle.std.specs.Prelude.{Result, Ok, Err, IsErr}
use Rattle.model.specs.Answers.{Answer}
use Rattle.model.specs.Refusals.{number_of, number_in, answer_of}
use Rattle.model.specs.declared.refusal.Refusal.{Refusal}
use Rattle.model.specs.declared.refusal.Refusal.TheVariants.{Coverage, RowCount, Order, SeedEnds, Workspace, Limit, Output, Body, Block, Count, Table, Record}
use Rattle.model.proofs.Answers.{same_number, same_size}
use Rattle.gather_core.specs.declared.Gatherer.{Gatherer}
use Rattle.gather_core.specs.Gather.{values_of}

-- ---- a refusal from its number

abbrev refusal_of : ℕ → Refusal
refusal_of n = get_or (Coverage ∷ RowCount ∷ Order ∷ SeedEnds ∷ Workspace ∷ Limit ∷ Output ∷ Body ∷ Block ∷ Count ∷ Table ∷ []) (n - 1) Record

numbered : (r : Refusal) → (refusal_of (number_of r) ≡ r) × (1 ≤ number_of r)
numbered Coverage = (refl, omega arith)
numbered RowCount = (refl, omega arith)
numbered Order = (refl, omega arith)
numbered SeedEnds = (refl, omega arith)
numbered Workspace = (refl, omega arith)
numbered Limit = (refl, omega arith)
numbered Output = (refl, omega arith)
numbered Body = (refl, omega arith)
numbered Block = (refl, omega arith)
numbered Count = (refl, omega arith)
numbered Table = (refl, omega arith)
numbered Record = (refl, omega arith)

pub same_refusal : (r s : Refusal) → number_of r ≡ number_of s → r ≡ s
same_refusal r s e = sym (numbered r).0 ∙ ap refusal_of e ∙ (numbered s).0

pub refuses : (r : Refusal) (n : ℕ) → number_of r ≡ n → n ≡ 0 → ⊥
refuses r n e z = omega (arith, (numbered r).1)

pub refused_by : (a : Result (Unit {0}) Refusal) (n : ℕ) → number_in a ≡ n → (n ≡ 0 → ⊥) → IsErr a
refused_by (Ok x) n e f = absurd (f (sym e))
refused_by (Err r) n e f = refl

-- ---- a record from its values

abbrev pub of_values : List ℕ → Gatherer
of_values vs = record { entries = get_or vs 0 0; rows = get_or vs 1 0; first = get_or vs 2 0; last = get_or vs 3 0 }

pub answers_same : (a b : Result Gatherer Refusal) → answer_of values_of a ≡ answer_of values_of b → a ≡ b
answers_same (Ok g) (Ok h) e = ap (λ (x : Answer). Ok (of_values x.values)) e
answers_same (Ok g) (Err s) e = absurd (omega (arith, same_size e))
answers_same (Err r) (Ok h) e = absurd (omega (arith, same_size e))
answers_same (Err r) (Err s) e = ap Err (same_refusal r s (same_number e))
