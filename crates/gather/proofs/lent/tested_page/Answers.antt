-- `gather::lent::tested_page` meets its contract.
-- Assumes nothing.
use Rattle.std.proofs.Common.{◌∙◌}
use Rattle.gather_core.specs.Gather.{page_answer}
use Rattle.gather.specs.Records.{page_record}
use Rattle.gather.proofs.Taken.{taken_answer, taken_record}
use Rattle.gather.proofs.lent.tested_page.Goals as goal

pub returns-clause-answered : goal.returns-clause-answered
returns-clause-answered c = rw c.taken_apart.ensures (taken_answer _ _ ∙ c.gather_page.ensures.0)

pub returns-clause-record_after : goal.returns-clause-record_after
unfolding page_answer page_record
returns-clause-record_after c = rw c.taken_apart.ensures (taken_record _ _ _ _ c.gather_page.ensures.0)
