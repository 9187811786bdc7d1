-- `gather::quick::goes_in` meets its contract.
-- Assumes nothing.
use Rattle.std.proofs.Common.{arith}
use Rattle.std.proofs.lemmas.Bool.Decides.{nat_tests}
use Rattle.gather_core.proofs.Pages.{goes_in}
use Rattle.gather.proofs.quick.goes_in.Goals as goal

pub returns-then-g-2 : goal.returns-then-g-2
returns-then-g-2 c e = let r = c.rises_closely.ensures e in grind (arith, nat_tests, goes_in)
