-- `bodies::Accepted::place` meets its contract.
-- Assumes nothing.
use Rattle.bodies.proofs.Laws.{nine, names_nine, other_place}
use Rattle.bodies.proofs.Accepted.place.Goals as goal

pub new-requires : goal.new-requires
new-requires c = nine _ _ _ c.args.self.now.accepted c.if-self-eq9.true

pub returns-then-self-eq9 : goal.returns-then-self-eq9
returns-then-self-eq9 c = rw (names_nine _ _ _ c.if-self-eq9.true) (rw c.new.ensures.1 at c.place.ensures)

pub returns-else-self-eq9 : goal.returns-else-self-eq9
returns-else-self-eq9 c = other_place _ _ _ c.args.self.now.accepted c.if-self-eq9.false c.single.ensures.view c.args.self.now.bytes _ (rw c.single.ensures.body at c.place-else-self-eq9.ensures)
