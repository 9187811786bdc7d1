-- The count of a section's deletions is shown as the count of a body is.
-- Assumes nothing.
use Rattle.std.proofs.Common.{ap, ◌∙◌}
use Rattle.rowset.specs.Calls.{checked_of}
use Rattle.deletion.specs.Reading.{counted_of}
use Rattle.pelisafu.specs.Shown.{shown_checked}
use Rattle.pelisafu.proofs.deletions.pelisafu_check_deletions.Goals as goal

pub returns : goal.returns
unfolding checked_of counted_of
returns c = rw (← c.section.ensures) (c.into.ensures ∙ ap shown_checked c.check_deletions.ensures)
