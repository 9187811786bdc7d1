-- `segmented::Segmented::rank` meets its contract: past the span nothing stands.
-- Assumes nothing.
use Rattle.std.proofs.Common.{sym, arith}
use Rattle.model.specs.Lists.{place_of}
use Rattle.model.specs.Answers.{rank_or_none}
use Rattle.model.proofs.Tests.{pick_false}
use Rattle.model.proofs.Standing.{has_outside}
use Rattle.segmented.proofs.Named.{segmented_rising}
use Rattle.segmented.proofs.Segmented.rank.Goals as goal

pub returns-then-self-p : goal.returns-then-self-p
unfolding rank_or_none place_of
returns-then-self-p c = sym (pick_false _ _ (has_outside (segmented_rising _ _ c.args.self.now.accepted c.args.self.now.bytes) _ (λ w. omega (arith, w.1, c.if-self-p.true))))
