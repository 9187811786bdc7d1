-- `runs::Runs::walk` meets its contract.
-- Assumes nothing.
use Rattle.runs.specs.Asked.{entry_of, before_to}
use Rattle.search.proofs.Laws.{found_inside, found_hit}
use Rattle.runs.proofs.Filling.{walked_none, walked_rest}
use Rattle.runs.proofs.Runs.walk.Goals as goal

pub returns-then-found-eq0 : goal.returns-then-found-eq0
returns-then-found-eq0 c = walked_none _ _ _ _ _ _ c.before_to-found.ensures c.if-found-eq0.true

pub read-requires : goal.read-requires
unfolding before_to
read-requires c = found_inside _ _ _ c.before_to-found.ensures c.if-found-eq0.false

pub overflow_sub-skip : goal.overflow_sub-skip
unfolding entry_of before_to
overflow_sub-skip c = rw c.read.ensures (found_hit _ _ _ c.before_to-found.ensures c.if-found-eq0.false)

pub returns : goal.returns
returns c = walked_rest _ _ _ _ _ c.before_to-found.ensures c.if-found-eq0.false c.read.ensures c.walk_from.ensures
