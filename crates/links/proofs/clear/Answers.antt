-- The words that are filled are the first 24n.
-- Assumes nothing.
use Rattle.std.proofs.lemmas.List.{length-replicate}
use lib.Seq.{length-take-le}
use Rattle.model.specs.Answers.{over}
use Rattle.links.proofs.clear.Goals as goal

pub returns : goal.returns
unfolding over
returns c = rw (length-replicate, c.fill.ensures.after (λ y e. e), length-take-le _ _ c.requires)
