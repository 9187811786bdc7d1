-- One call fills a lent table of segment records from an accepted body of tag 9: what it answers, and what it leaves in the table.
-- Assumes nothing.
use Rattle.std.specs.Prelude.{List, [], ◌∷◌, ℕ, eqb, leb, length, get_or}
use Rattle.model.specs.Tests.{pick, tabulate}
use Rattle.model.specs.Answers.{Answer, accepted, refused, over}
use Rattle.directory.specs.Directory.{stated_segments, entry_of}
use Rattle.directory.specs.declared.Segment.{Segment}
use Rattle.bodies.specs.Bodies.{accepts}
use Rattle.rowset.specs.Calls.{asked}

-- the entries of the directory: another tag than 9 has none
unfoldable pub entries_of : ℕ → List ℕ → List Segment
entries_of tag xs = pick (eqb tag 9) (tabulate (entry_of xs) (stated_segments xs)) []

-- 8, then 7 where the table is shorter than the entries; else how many were written
unfoldable pub segments_answer : ℕ → ℕ → List ℕ → ℕ → Answer
segments_answer tag span xs room =
    asked tag span xs (pick (leb (length (entries_of tag xs)) room) (accepted (length (entries_of tag xs) ∷ [])) (refused 7))

-- the entries in front of the table where the body is accepted and there is room, else the table as it was
unfoldable pub segments_left : ℕ → ℕ → List ℕ → List Segment → List Segment
segments_left tag span xs old =
    pick (accepts tag span xs) (pick (leb (length (entries_of tag xs)) (length old)) (over (entries_of tag xs) old) old) old

-- how many were written: none in a refusal
unfoldable pub written_in : Answer → ℕ
written_in a = get_or a.values 0 0
