-- `bodies::Accepted::select` meets its contract.
-- Assumes nothing.
use Rattle.std.proofs.Common.{arith}
use Rattle.bodies.proofs.Laws.{nine, nine_within, names_nine, other_count, other_select}
use Rattle.bodies.proofs.Accepted.select.Goals as goal

pub new-requires : goal.new-requires
new-requires c = nine _ _ _ c.args.self.now.accepted c.if-self-eq9.true

pub select-requires : goal.select-requires
select-requires c = rw c.new.ensures.1 (nine_within _ _ _ c.args.self.now.accepted c.if-self-eq9.true c.args.self.now.bytes c.requires)

pub select-requires-else-self-eq9 : goal.select-requires-else-self-eq9
select-requires-else-self-eq9 c = omega (arith, other_count _ _ _ c.args.self.now.accepted c.if-self-eq9.false c.single.ensures.view c.args.self.now.bytes)

pub returns-then-self-eq9 : goal.returns-then-self-eq9
returns-then-self-eq9 c = rw (names_nine _ _ _ c.if-self-eq9.true) (rw c.new.ensures.1 at c.select.ensures)

pub returns-else-self-eq9 : goal.returns-else-self-eq9
returns-else-self-eq9 c = other_select _ _ _ c.args.self.now.accepted c.if-self-eq9.false c.single.ensures.view c.args.self.now.bytes c.args.self.now.narrow _ c.requires (rw c.single.ensures.body at c.select-else-self-eq9.ensures)
