-- What the C calls on a lent record promise: the number of the answer, and the record and the table at exit, are document 01's.
-- Assumes nothing.
use mathlib.Core.List.{List}
use Prim.Native.Nat.{ℕ}
use contract.Lifetimes.{Lfts}
use denote.Ref.{Bor, MutBor}
use Rattle.gather_core.specs.declared.Gatherer.{Gatherer}
use Rattle.gather.proofs.Promised.{of_row, of_page}
use Rattle.pelisafu.proofs.Numbers.{Numbered}
use Rattle.pelisafu.proofs.gathering.pelisafu_add_row.Reads as add-row
use Rattle.pelisafu.proofs.gathering.pelisafu_add_page.Reads as add-page

module _ (g g' : MutBor Gatherer) (table table' : MutBor (List ℕ)) (n : ℕ) where
  pub passes_row_on : (κs : Lfts 2) (row : ℕ) → add-row.Learnt κs (g, (table, (row, tt))) n (g', (table', (row, tt))) → Numbered (of_row g.now table.now row) n g'.now table'.now
  passes_row_on κs row l = l

  pub passes_page_on : (κs : Lfts 3) (rows : Bor (List ℕ)) → add-page.Learnt κs (g, (table, (rows, tt))) n (g', (table', (rows, tt)))
      → Numbered (of_page g.now table.now rows.now) n g'.now table'.now
  passes_page_on κs rows l = l
