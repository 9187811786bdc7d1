-- `runs::Runs::before_to` meets its contract.
-- Assumes nothing.
use Rattle.std.proofs.Common.{arith}
use Rattle.fields.specs.Le.{width_of}
use Rattle.runs.specs.Asked.{before_to}
use Rattle.search.proofs.Entries.{slots}
use Rattle.runs.proofs.Runs.before_to.Goals as goal

pub upper-requires : goal.upper-requires
unfolding width_of
upper-requires c = rw c.width-w.ensures.0 (slots _ _ _ c.args.self.now.sized (omega arith))

pub returns : goal.returns
unfolding width_of before_to
returns c = rw (c.width-w.ensures.0, c.from.ensures) at c.upper.ensures
