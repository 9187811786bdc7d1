-- `segmented::Segmented::directory` meets its contract: an accepted body has room for the entries that it states.
-- Assumes nothing.
use Rattle.std.proofs.Common.{arith}
use Rattle.segmented.proofs.Named.{directory_of}
use Rattle.segmented.proofs.Segmented.directory.Goals as goal

pub segments-requires : goal.segments-requires
segments-requires c = omega (arith, (directory_of _ _ c.args.self.now.accepted).room)

pub new-requires : goal.new-requires
new-requires c = omega (arith, (directory_of _ _ c.args.self.now.accepted).room, c.segments.ensures.0)
