-- `runs::Runs::rank` meets its contract.
-- Assumes nothing.
use Rattle.std.proofs.Common.{refl}
use Rattle.model.specs.Answers.{rank_or_none}
use Rattle.model.specs.Tests.{pick}
use Rattle.model.proofs.Counted.{test_is}
use Rattle.model.proofs.Ranking.{lies_from, rank_out, rank_in_lem}
use Rattle.runs.specs.Asked.{entry_of, starts_to, runs_place}
use Rattle.search.proofs.Laws.{found_inside, found_hit}
use Rattle.runs.proofs.Found.{last_none, last_some}
use Rattle.runs.proofs.Runs.rank.Goals as goal

pub returns-then-not-lies_in : goal.returns-then-not-lies_in
returns-then-not-lies_in c = rank_out _ _ _ _ (test_is c.lies_in.ensures c.if-not-lies_in.true)

pub overflow_sub-p : goal.overflow_sub-p
overflow_sub-p c = lies_from _ _ _ (test_is c.lies_in.ensures c.if-not-lies_in.false)

pub returns-then-found-eq0 : goal.returns-then-found-eq0
unfolding runs_place rank_or_none pick
returns-then-found-eq0 c = rank_in_lem _ _ _ _ (test_is c.lies_in.ensures c.if-not-lies_in.false) (last_none _ _ c.starts_to-found.ensures c.if-found-eq0.true) refl

pub read-requires : goal.read-requires
unfolding starts_to
read-requires c = found_inside _ _ _ c.starts_to-found.ensures c.if-found-eq0.false

pub overflow_sub-p-2 : goal.overflow_sub-p-2
overflow_sub-p-2 c = lies_from _ _ _ (test_is c.lies_in.ensures c.if-not-lies_in.false)

pub place_in-requires : goal.place_in-requires
unfolding entry_of starts_to
place_in-requires c = rw c.read.ensures (found_hit _ _ _ c.starts_to-found.ensures c.if-found-eq0.false)

pub returns : goal.returns
unfolding runs_place
returns c =
    rank_in_lem _ _ _ _ (test_is c.lies_in.ensures c.if-not-lies_in.false) (last_some _ _ c.starts_to-found.ensures c.if-found-eq0.false)
    (rw c.read.ensures at (rw c.place_in.ensures at c.rank_or.ensures))
