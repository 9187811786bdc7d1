-- `bodies::Accepted::ranks` meets its contract.
-- Assumes nothing.
use Rattle.bodies.proofs.Laws.{nine, names_nine, other, names_other}
use Rattle.bodies.proofs.Accepted.ranks.Goals as goal

pub new-requires : goal.new-requires
new-requires c = nine _ _ _ c.args.self.now.accepted c.if-self-eq9.true

pub ranks-requires-else-self-eq9 : goal.ranks-requires-else-self-eq9
ranks-requires-else-self-eq9 c = (other _ _ _ c.args.self.now.accepted c.if-self-eq9.false, c.requires)

pub returns-then-self-eq9 : goal.returns-then-self-eq9
returns-then-self-eq9 c = rw (names_nine _ _ _ c.if-self-eq9.true) (rw c.new.ensures.1 at c.ranks.ensures)

pub returns-else-self-eq9 : goal.returns-else-self-eq9
returns-else-self-eq9 c = rw (names_other _ _ _ c.if-self-eq9.false) c.ranks-else-self-eq9.ensures
