-- `gather_core::row_fits` meets its contract.
-- Assumes nothing.
use Rattle.std.proofs.Common.{sym}
use Rattle.gather_core.proofs.Admitted.{passed}
use Rattle.gather_core.proofs.row_fits.Goals as goal

pub added-requires : goal.added-requires
added-requires c = (passed _ _ _ _ (sym c.in_ok-early.ensures)).counted
