-- `plan::wins` meets its contract.
-- Assumes nothing.
use Rattle.std.proofs.Common.{◌∙◌}
use Rattle.cost.proofs.Choices.{lex-one}
use Rattle.planning.specs.Bodies.{choice_key}
use Rattle.plan.proofs.Choice.{order_last, by_four}
use Rattle.plan.proofs.wins.Goals as goal

pub returns : goal.returns
unfolding choice_key
returns c = c.lt.ensures ∙ by_four _ _ _ _ _ _ _ _ _ _ (lex-one _ _ ∙ order_last _ _ c.requires)
