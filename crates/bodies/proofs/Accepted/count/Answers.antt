-- `bodies::Accepted::count` meets its contract.
-- Assumes nothing.
use Rattle.std.proofs.Common.{arith, ◌∙◌}
use Rattle.bodies.proofs.Laws.{nine_room, nine_count, other_count}
use Rattle.bodies.proofs.Accepted.count.Goals as goal

pub read16-requires : goal.read16-requires
read16-requires c = omega (arith, nine_room _ _ _ c.args.self.now.accepted c.if-self-eq9.true)

pub returns-then-self-eq9 : goal.returns-then-self-eq9
returns-then-self-eq9 c = nine_count _ _ _ c.args.self.now.accepted c.if-self-eq9.true c.args.self.now.bytes c.read16.ensures

pub returns-else-self-eq9 : goal.returns-else-self-eq9
returns-else-self-eq9 c = c.count.ensures ∙ other_count _ _ _ c.args.self.now.accepted c.if-self-eq9.false c.single.ensures.view c.args.self.now.bytes
