-- The answers of document 01 as the structs of the C interface: the number of the refusal or 0, and each value, 0 where there is none.
-- And a section of deletions from the numbers of that interface.
-- Assumes nothing.
use Rattle.std.specs.Prelude.{List, [], ◌∷◌, ℕ, Option, None, Some, eqb, get_or}
use Rattle.model.specs.Tests.{pick}
use Rattle.model.specs.Answers.{Answer}
use Rattle.directory.specs.declared.Segment.{Segment}
use Rattle.deletion.specs.declared.Coded.{Coded}
use Rattle.gather_core.specs.declared.Gatherer.{Gatherer}
use Rattle.pelisafu.specs.declared.Plan.{Plan}
use Rattle.pelisafu.specs.declared.Checked.{Checked}
use Rattle.pelisafu.specs.declared.Ranked.{Ranked}
use Rattle.pelisafu.specs.declared.Selected.{Selected}
use Rattle.pelisafu.specs.declared.Filled.{Filled}
use Rattle.pelisafu.specs.declared.Entry.{Entry}
use Rattle.pelisafu.specs.declared.Contained.{Contained}
use Rattle.pelisafu.specs.declared.Gathered.{Gathered}

-- the i-th value of an answer, 0 where it has none
unfoldable pub value_at : Answer → ℕ → ℕ
value_at a i = get_or a.values i 0

-- 1 where there is a value, 0 where there is none
unfoldable pub some_in : List ℕ → ℕ
some_in [] = 0
some_in (v ∷ vs) = 1

-- tag, body length, segments after merging, offers
unfoldable pub shown_plan : Answer → Plan
shown_plan a = record { number = a.number; tag = value_at a 0; length = value_at a 1; segments = value_at a 2; offers = value_at a 3 }

unfoldable pub shown_checked : Answer → Checked
shown_checked a = record { number = a.number; rows = value_at a 0 }

unfoldable pub shown_ranked : Answer → Ranked
shown_ranked a = record { number = a.number; found = some_in a.values; ordinal = value_at a 0 }

unfoldable pub shown_selected : Answer → Selected
shown_selected a = record { number = a.number; found = some_in a.values; position = value_at a 0 }

unfoldable pub shown_filled : Answer → Filled
shown_filled a = record { number = a.number; written = value_at a 0 }

-- start, span, count, ordinal, offset, length, tag
unfoldable pub segment_in : Answer → Segment
segment_in a = record { start = value_at a 0; span = value_at a 1; count = value_at a 2; ordinal = value_at a 3; offset = value_at a 4; length = value_at a 5; tag = value_at a 6 }

unfoldable pub shown_entry : Answer → Entry
shown_entry a = record { number = a.number; found = some_in a.values; «record» = segment_in a }

-- 1 for yes, 0 for no
unfoldable pub shown_contained : Answer → Contained
shown_contained a = record { number = a.number; found = value_at a 0 }

-- the number, beside the record that the call leaves
unfoldable pub shown_gathered : Answer → Gatherer → Gathered
shown_gathered a after = record { number = a.number; «record» = after }

-- ---- what is read

-- a section: where coded is 0 the empty set, else a body of this tag with the count that is stated of it
unfoldable pub section_of : ℕ → ℕ → ℕ → Option Coded
section_of coded count tag = pick (eqb coded 0) None (Some (record { count = count; tag = tag }))
