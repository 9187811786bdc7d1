-- The local forms by tag: what is accepted, what is named, how it is laid out, and what the readers answer on any bytes.
-- 1 dense, 2 list of 32 bits, 3 list of 16, 4 runs of 16, 5 runs of 32, 6 bitmap, 7 missing; no other tag is a local form.
-- Assumes nothing.
use Rattle.std.specs.Prelude.{Bool, true, false, List, [], ℕ, ◌-◌, ◌*◌, eqb, leb, take}
use Rattle.model.specs.Tests.{both, pick}
use Rattle.model.specs.Lists.{place_of, moved, walk_of}
use Rattle.model.specs.declared.Place.{Place}
use Rattle.lists.specs.Lists.{dense_accepts, dense_names, list_accepts, list_names, list_layout, list_place, item}
use Rattle.missing.specs.Missing.{missing_accepts, missing_names, missing_layout, missing_place, missing_select, missing_from}
use Rattle.runs.specs.Runs.{runs_accepts, runs_names, runs_layout, run_count, most_of}
use Rattle.runs.specs.Asked.{runs_place, runs_select, runs_walk}
use Rattle.bitmap.specs.Body.{bitmap_accepts, bitmap_names, bitmap_layout, bitmap_length}
use Rattle.bitmap.specs.Reading.{bitmap_place, bitmap_select, bitmap_walk}

-- the tags of a list and of runs, by whether a field has 32 bits or 16
unfoldable pub list_tag : Bool → ℕ
list_tag true = 2
list_tag false = 3

unfoldable pub runs_tag : Bool → ℕ
runs_tag true = 5
runs_tag false = 4

-- what stands for each form, for a list and runs by the bytes of a field, and for every other tag
pub record Cases (A : Type 0) : Type 0 where
  pub dense : A
  pub list : ℕ → A
  pub runs : ℕ → A
  pub bitmap : A
  pub missing : A
  pub other : A

unfoldable pub by_tag : {A : Type 0} → ℕ → Cases A → A
by_tag tag cases =
    pick (eqb tag 1) cases.dense
    (pick (eqb tag 2) (cases.list 4)
    (pick (eqb tag 3) (cases.list 2)
    (pick (eqb tag 4) (cases.runs 2)
    (pick (eqb tag 5) (cases.runs 4)
    (pick (eqb tag 6) cases.bitmap
    (pick (eqb tag 7) cases.missing
    cases.other))))))

-- ---- bytes to rows and back

-- which bytes are accepted over a span, with a stated count
unfoldable pub local_accepts : ℕ → List ℕ → ℕ → ℕ → Bool
local_accepts tag xs span n = by_tag tag (record {
  dense = dense_accepts xs span n;
  list = λ w. list_accepts w xs span n;
  runs = λ w. runs_accepts w xs span n;
  bitmap = bitmap_accepts xs span n;
  missing = missing_accepts xs span n;
  other = false;
})

-- the positions that they name
unfoldable pub local_names : ℕ → List ℕ → ℕ → ℕ → List ℕ
local_names tag xs span n = by_tag tag (record {
  dense = dense_names n;
  list = λ w. list_names w xs n;
  runs = λ w. runs_names w xs (run_count w xs);
  bitmap = bitmap_names xs span;
  missing = missing_names xs span (span - n);
  other = [];
})

-- the bytes of a rising list of positions below the span
unfoldable pub local_layout : ℕ → ℕ → List ℕ → List ℕ
local_layout tag span rows = by_tag tag (record {
  dense = [];
  list = λ w. list_layout w rows;
  runs = λ w. runs_layout w rows;
  bitmap = bitmap_layout span rows;
  missing = missing_layout span rows;
  other = [];
})

-- what a list must be for a tag: it has 1 to 65535 positions, rises below this end, and is as many of the span as the form wants.
-- A list and runs hold no position that their fields do not hold, and no list is below the end 0 of a tag that is no local form's
unfoldable pub local_end : ℕ → ℕ → ℕ
local_end tag span = by_tag tag (record { dense = span; list = λ w. most_of w span; runs = λ w. most_of w span; bitmap = span; missing = span; other = 0 })

unfoldable pub local_shaped : ℕ → ℕ → ℕ → Bool
local_shaped tag span n = by_tag tag (record { dense = eqb n span; list = λ w. true; runs = λ w. true; bitmap = true; missing = leb span 65535; other = false })

-- ---- the answers on any bytes of the right length

-- the lengths at which the readers find what they read inside: an accepted body has them
unfoldable pub local_sized : ℕ → ℕ → ℕ → ℕ → Bool
local_sized tag size span n = by_tag tag (record {
  dense = true;
  list = λ w. eqb size (n * w);
  runs = λ w. true;
  bitmap = eqb size (bitmap_length span);
  missing = both (leb span 65535) (both (leb n span) (eqb size ((span - n) * 2)));
  other = true;
})

unfoldable pub local_place : ℕ → List ℕ → ℕ → ℕ → ℕ → Place
local_place tag xs span n p = by_tag tag (record {
  dense = place_of (dense_names span) p;
  list = λ w. list_place w xs n p;
  runs = λ w. runs_place w xs (run_count w xs) p;
  bitmap = bitmap_place xs span n p;
  missing = missing_place xs span (span - n) p;
  other = record { below = 0; present = false };
})

unfoldable pub local_select : ℕ → List ℕ → ℕ → ℕ → ℕ → ℕ
local_select tag xs span n k = by_tag tag (record {
  dense = k;
  list = λ w. item w xs k;
  runs = λ w. runs_select w xs (run_count w xs) k;
  bitmap = bitmap_select xs span k;
  missing = missing_select xs (span - n) k;
  other = 0;
})

-- what a walk writes from ordinal k on, counted from base, where there is room for so many
unfoldable pub local_walk : ℕ → List ℕ → ℕ → ℕ → ℕ → ℕ → ℕ → List ℕ
local_walk tag xs span n k base room = by_tag tag (record {
  dense = moved base (walk_of (dense_names n) k room);
  list = λ w. moved base (walk_of (list_names w xs n) k room);
  runs = λ w. runs_walk w xs (run_count w xs) k base room;
  bitmap = bitmap_walk xs span k base room;
  missing = moved base (take room (missing_from xs span (span - n) k));
  other = [];
})
