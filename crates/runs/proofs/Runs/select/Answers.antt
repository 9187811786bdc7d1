-- `runs::Runs::select` meets its contract.
-- Assumes nothing.
use Rattle.std.proofs.Common.{◌∙◌}
use Rattle.runs.specs.Asked.{entry_of, before_to, runs_select}
use Rattle.search.proofs.Laws.{found_inside, found_hit}
use Rattle.runs.proofs.Found.{last_none, last_some}
use Rattle.runs.proofs.Runs.select.Goals as goal

pub returns-then-found-eq0 : goal.returns-then-found-eq0
unfolding runs_select
returns-then-found-eq0 c = last_none _ _ c.before_to-found.ensures c.if-found-eq0.true

pub read-requires : goal.read-requires
unfolding before_to
read-requires c = found_inside _ _ _ c.before_to-found.ensures c.if-found-eq0.false

pub nth-requires : goal.nth-requires
unfolding entry_of before_to
nth-requires c = rw c.read.ensures (found_hit _ _ _ c.before_to-found.ensures c.if-found-eq0.false)

pub returns : goal.returns
unfolding runs_select
returns c = rw c.read.ensures at c.nth.ensures ∙ last_some _ _ c.before_to-found.ensures c.if-found-eq0.false
