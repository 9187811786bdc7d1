-- `bodies::Accepted::walk` meets its contract.
-- Assumes nothing.
use Rattle.bodies.proofs.Laws.{nine, names_nine, other_walk}
use Rattle.bodies.proofs.Accepted.walk.Goals as goal

pub new-requires : goal.new-requires
new-requires c = nine _ _ _ c.args.self.now.accepted c.if-self-eq9.true

pub returns-then-self-eq9 : goal.returns-then-self-eq9
returns-then-self-eq9 c = rw (names_nine _ _ _ c.if-self-eq9.true) (rw c.new.ensures.1 at c.walk.ensures)

pub returns-else-self-eq9 : goal.returns-else-self-eq9
returns-else-self-eq9 c = rw (c.single.ensures.body, other_walk _ _ _ c.args.self.now.accepted c.if-self-eq9.false c.single.ensures.view c.args.self.now.bytes c.args.self.now.narrow _ _) at c.walk-else-self-eq9.ensures
