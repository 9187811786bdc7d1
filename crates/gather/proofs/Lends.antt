-- What `lend_row` and `lend_page` promise: the same on a local record that is lent for the call.
-- Assumes nothing.
use mathlib.Core.List.{List}
use Prim.Native.Nat.{ℕ}
use contract.Lifetimes.{Lfts}
use denote.Ref.{Bor, MutBor}
use Rattle.gather_core.specs.declared.Gatherer.{Gatherer}
use Rattle.gather.specs.declared.lent.Step.{Step}
use Rattle.gather.proofs.Promised.{of_row, of_page, Said}
use Rattle.gather.proofs.lent.lend_row.Reads as lend-row
use Rattle.gather.proofs.lent.lend_page.Reads as lend-page

module _ (g : Gatherer) (table table' : MutBor (List ℕ)) (s : Step) where
  pub lends_row : (κs : Lfts 1) (row : ℕ) → lend-row.Learnt κs (g, (table, (row, tt))) s (g, (table', (row, tt))) → Said (of_row g table.now row) s.answer s.after table'.now
  lends_row κs row l = l

  pub lends_page : (κs : Lfts 2) (rows : Bor (List ℕ)) → lend-page.Learnt κs (g, (table, (rows, tt))) s (g, (table', (rows, tt)))
      → Said (of_page g table.now rows.now) s.answer s.after table'.now
  lends_page κs rows l = l
