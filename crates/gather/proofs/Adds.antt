-- What `add_row` and `add_page` promise of the record that is lent to be changed: the answer, the record and the table at exit are document 01's.
-- `Learnt` is what the check reads from a function's `ensures`, and so what a caller learns.
-- Assumes nothing.
use mathlib.Core.List.{List}
use Prim.Native.Nat.{ℕ}
use contract.Lifetimes.{Lfts}
use denote.Ref.{Bor, MutBor}
use Rattle.std.specs.Prelude.{Result}
use Rattle.model.specs.declared.refusal.Refusal.{Refusal}
use Rattle.gather_core.specs.declared.Gatherer.{Gatherer}
use Rattle.gather.proofs.Promised.{of_row, of_page, Said}
use Rattle.gather.proofs.lent.add_row.Reads as add-row
use Rattle.gather.proofs.lent.add_page.Reads as add-page

module _ (g g' : MutBor Gatherer) (table table' : MutBor (List ℕ)) (a : Result (Unit {0}) Refusal) where
  pub adds_row : (κs : Lfts 2) (row : ℕ) → add-row.Learnt κs (g, (table, (row, tt))) a (g', (table', (row, tt))) → Said (of_row g.now table.now row) a g'.now table'.now
  adds_row κs row l = l

  pub adds_page : (κs : Lfts 3) (rows : Bor (List ℕ)) → add-page.Learnt κs (g, (table, (rows, tt))) a (g', (table', (rows, tt)))
      → Said (of_page g.now table.now rows.now) a g'.now table'.now
  adds_page κs rows l = l
