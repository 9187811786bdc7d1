-- `encode::put_entry` meets its contract: seven fields.
-- Assumes nothing.
use Rattle.encode.proofs.Headers.{entry-written}
use Rattle.encode.proofs.put_entry.Goals as goal

pub returns : goal.returns
returns c = entry-written _ _ c.put32.ensures c.put16.ensures c.put16-2.ensures c.put16-3.ensures c.put16-4.ensures c.put16-5.ensures (rw c.from.ensures at c.put16-6.ensures)
