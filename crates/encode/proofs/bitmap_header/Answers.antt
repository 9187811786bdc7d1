-- `encode::bitmap_header` meets its contract: four fields.
-- Assumes nothing.
use Rattle.encode.proofs.Headers.{bitmap_written}
use Rattle.encode.proofs.bitmap_header.Goals as goal

pub returns : goal.returns
returns c = bitmap_written _ _ _ _ c.put16.ensures c.put16-2.ensures c.put32.ensures c.put32-2.ensures
