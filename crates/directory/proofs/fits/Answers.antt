-- `directory::fits` meets its contract.
-- Assumes nothing.
use Rattle.directory.proofs.Checking.{fits_is}
use Rattle.directory.proofs.fits.Goals as goal

pub returns : goal.returns
returns c = rw (c.from-start.ensures, c.from.ensures, c.from-2.ensures, c.from-4.ensures, c.from-5.ensures) (fits_is _ _ _ _ _ _ (rw c.from-3.ensures at c.counted.ensures) c.is_local.ensures)
