use Rattle.std.proofs.Common.{ap, ◌∙◌}
use Rattle.model.specs.Answers.{Answer}
use Rattle.pelisafu.proofs.Numbers.{number_is}
use Rattle.pelisafu.proofs.gathering.pelisafu_add_row.Goals as goal

pub returns-clause-value : goal.returns-clause-value
returns-clause-value c =
    c.number_of.ensures ∙ number_is c.add_row.result c.add_row.new.g ∙ ap (λ (a : Answer). a.number) c.add_row.ensures.answered
