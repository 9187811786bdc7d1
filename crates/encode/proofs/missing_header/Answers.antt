-- `encode::missing_header` meets its contract: three fields.
-- Assumes nothing.
use Rattle.encode.proofs.Headers.{missing_written}
use Rattle.encode.proofs.missing_header.Goals as goal

pub returns : goal.returns
returns c = missing_written _ _ _ _ c.put32.ensures c.put16.ensures c.put16-2.ensures
