-- `runs::Runs::place` meets its contract.
-- Assumes nothing.
use Rattle.std.proofs.Common.{◌∙◌}
use Rattle.runs.specs.Asked.{entry_of, starts_to, runs_place}
use Rattle.search.proofs.Laws.{found_inside, found_hit}
use Rattle.runs.proofs.Found.{last_none, last_some}
use Rattle.runs.proofs.Runs.place.Goals as goal

pub returns-then-found-eq0 : goal.returns-then-found-eq0
unfolding runs_place
returns-then-found-eq0 c = last_none _ _ c.starts_to-found.ensures c.if-found-eq0.true

pub read-requires : goal.read-requires
unfolding starts_to
read-requires c = found_inside _ _ _ c.starts_to-found.ensures c.if-found-eq0.false

pub place_in-requires : goal.place_in-requires
unfolding entry_of starts_to
place_in-requires c = rw c.read.ensures (found_hit _ _ _ c.starts_to-found.ensures c.if-found-eq0.false)

pub returns : goal.returns
unfolding runs_place
returns c = rw c.read.ensures at c.place_in.ensures ∙ last_some _ _ c.starts_to-found.ensures c.if-found-eq0.false
