use Rattle.std.proofs.Common.{ap, ◌∙◌}
use Rattle.model.specs.Answers.{Answer}
use Rattle.pelisafu.proofs.Numbers.{number_is}
use Rattle.pelisafu.proofs.gathering.pelisafu_add_page.Goals as goal

pub returns-clause-value : goal.returns-clause-value
returns-clause-value c =
    c.number_of.ensures ∙ number_is c.add_page.result c.add_page.new.g ∙ ap (λ (a : Answer). a.number) c.add_page.ensures.answered
