-- Tag 9, a directory and the parts that it names: which bodies are accepted, and the positions that they name.
-- Assumes nothing.
use Rattle.std.specs.Prelude.{◌≡◌, ℕ, ◌+◌, ◌-◌, ◌%◌, ◌≤◌, Bool, true, List, ◌++◌, length, take, drop}
use Rattle.model.specs.Tests.{both, all}
use Rattle.model.specs.Answers.{over}
use Rattle.directory.specs.Directory.{stated_segments, tag_at, span_at, count_at, part_of, directory_accepts, names_of}
use Rattle.directory.specs.declared.Segment.{Segment}
use Rattle.model.specs.declared.Place.{Place}
use Rattle.forms.specs.Forms.{local_accepts, local_names, local_sized, local_place, local_select, local_walk}

-- the part of segment i is accepted as its entry states it, and names these positions counted from its start
unfoldable pub part_accepts : List ℕ → ℕ → Bool
part_accepts xs i = local_accepts (tag_at xs i) (part_of xs i) (span_at xs i) (count_at xs i)

unfoldable pub part_names : List ℕ → ℕ → List ℕ
part_names xs i = local_names (tag_at xs i) (part_of xs i) (span_at xs i) (count_at xs i)

unfoldable pub segmented_accepts : ℕ → List ℕ → Bool
segmented_accepts span xs = both (directory_accepts xs span) (all (part_accepts xs) (stated_segments xs))

unfoldable pub segmented_names : List ℕ → List ℕ
segmented_names xs = names_of xs (part_names xs)

-- ---- one segment, by its entry: the part that it names, and what its readers answer counted over all segments

-- the part, as the code cuts it out
abbrev pub part_by : Segment → List ℕ → List ℕ
part_by e xs = take (e.offset + e.length - e.offset) (drop e.offset xs)

-- it lies in the body, and has the length that the local form's readers want
pub record PartReadable (e : Segment) (xs : List ℕ) : Type 0 where
  pub inside : e.offset + e.length ≤ length xs
  pub sized : local_sized e.tag e.length e.span e.count ≡ true

unfoldable pub counted_from : ℕ → Place → Place
counted_from rows q = record { below = (rows + q.below) % 4294967296; present = q.present }

unfoldable pub place_in : Segment → List ℕ → ℕ → Place
place_in e xs p = counted_from e.ordinal (local_place e.tag (part_by e xs) e.span e.count (p - e.start))

unfoldable pub select_in : Segment → List ℕ → ℕ → ℕ
select_in e xs k = (e.start + local_select e.tag (part_by e xs) e.span e.count (k - e.ordinal)) % 4294967296

unfoldable pub walk_in : Segment → List ℕ → ℕ → ℕ → List ℕ
walk_in e xs skip room = local_walk e.tag (part_by e xs) e.span e.count skip e.start room

-- rows stand behind the first at of the lent slice, the rest is as it was, and n is their number
pub record WalkedAt (rows : List ℕ) (at : ℕ) (before after : List ℕ) (n : ℕ) : Type 0 where
  pub written : after ≡ take at before ++ over rows (drop at before)
  pub number : n ≡ length rows
