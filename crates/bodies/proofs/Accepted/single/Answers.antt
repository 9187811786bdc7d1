-- `bodies::Accepted::single` meets its contract.
-- Assumes nothing.
use Rattle.bodies.proofs.Laws.{other_header, other_readable}
use Rattle.bodies.proofs.Accepted.single.Goals as goal

pub parse-requires : goal.parse-requires
parse-requires c = other_header _ _ _ c.args.self.now.accepted c.requires

pub new-requires : goal.new-requires
new-requires c = other_readable _ _ _ c.args.self.now.accepted c.requires c.parse.ensures
