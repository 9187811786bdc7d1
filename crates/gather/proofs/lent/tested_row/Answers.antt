-- `gather::lent::tested_row` meets its contract.
-- Assumes nothing.
use Rattle.std.proofs.Common.{◌∙◌}
use Rattle.gather_core.specs.Gather.{row_answer}
use Rattle.gather.specs.Records.{row_record}
use Rattle.gather.proofs.Taken.{taken_answer, taken_record}
use Rattle.gather.proofs.lent.tested_row.Goals as goal

pub returns-clause-answered : goal.returns-clause-answered
returns-clause-answered c = rw c.taken_apart.ensures (taken_answer _ _ ∙ c.gather_row.ensures.0)

pub returns-clause-record_after : goal.returns-clause-record_after
unfolding row_answer row_record
returns-clause-record_after c = rw c.taken_apart.ensures (taken_record _ _ _ _ c.gather_row.ensures.0)
