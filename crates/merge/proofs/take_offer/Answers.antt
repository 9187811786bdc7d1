-- Assumes nothing.
use Rattle.std.proofs.Common.{refl, sym, ◌∙◌}
use Rattle.model.proofs.Tests.{never}
use Rattle.merge.proofs.take_offer.Goals as goal

pub join_pair-requires : goal.join_pair-requires
join_pair-requires c = record { ready = (c.requires.ready (sym c.live.ensures ∙ c.if-live.true), c.requires.cuts.1); room = c.requires.room }

pub returns-then-live-clause-taken : goal.returns-then-live-clause-taken
returns-then-live-clause-taken c = record { live = λ _. c.join_pair.ensures.joining; stale = λ f. never (sym c.live.ensures ∙ c.if-live.true) f }

pub returns-else-live-clause-taken : goal.returns-else-live-clause-taken
returns-else-live-clause-taken c = record { live = λ t. never t (sym c.live.ensures ∙ c.if-live.false); stale = λ _. (refl, refl, refl) }
