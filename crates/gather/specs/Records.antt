-- What the calls on a lent record answer, and the record that is left. And what the quick tests say of a row.
-- Assumes nothing.
use Rattle.std.specs.Prelude.{◌≡◌, true, false, ℕ, List, eqb, length, Result, Ok, Err}
use Rattle.model.specs.Tests.{pick}
use Rattle.model.specs.Answers.{Answer}
use Rattle.model.specs.Refusals.{number_of, answer_of}
use Rattle.model.specs.declared.refusal.Refusal.{Refusal}
use Rattle.gather_core.specs.declared.Gatherer.{Gatherer}
use Rattle.gather.specs.declared.quick.Way.{Way}
use Rattle.gather.specs.declared.quick.Way.TheVariants as way
use Rattle.gather.specs.declared.lent.Step.{Step}
use Rattle.gather_core.specs.Gather.{values_of, kept, row_number, added, page_number, paged, Goes}

-- document 01's number and values of a call on a lent record: where it was done, the values are those of the record that it left
abbrev pub added_answer : Result (Unit {0}) Refusal → Gatherer → Answer
added_answer result after = answer_of (λ _. values_of after) result

-- the record that is left: a refusal changes none
unfoldable pub row_record : Gatherer → ℕ → ℕ → Gatherer
row_record g room row = kept (row_number g room row) g (added g row)

-- an empty page changes nothing
unfoldable pub page_record : Gatherer → ℕ → List ℕ → Gatherer
page_record g room rows = kept (page_number g room rows) g (pick (eqb (length rows) 0) g (paged g rows))

-- the by-value answer taken apart, over the old record
unfoldable pub step_of : Gatherer → Result Gatherer Refusal → Step
step_of old (Ok g) = record { answer = Ok tt; after = g }
step_of old (Err r) = record { answer = Err r; after = old }

-- what a way, or a refusal, says of a row
unfoldable pub Leads : Result Way Refusal → Gatherer → ℕ → ℕ → Type 0
Leads (Ok way.On) g room row = Goes true g room row
Leads (Ok way.Anew) g room row = Goes false g room row
Leads (Err r) g room row = row_number g room row ≡ number_of r

-- the old record with the row total and the last row of the new one
abbrev pub went_on : Gatherer → Gatherer → Gatherer
went_on old new = record { entries = old.entries; rows = new.rows; first = old.first; last = new.last }
