-- `directory::Directory::entry` meets its contract: each field is read where the definition has it.
-- Assumes nothing.
use Rattle.directory.proofs.Checking.{entry_is}
use Rattle.directory.proofs.Directory.entry.Goals as goal

pub returns : goal.returns
returns c = entry_is _ _ c.read32.ensures c.read16.ensures c.read16-2.ensures c.read16-3.ensures c.read16-4.ensures c.read16-5.ensures
