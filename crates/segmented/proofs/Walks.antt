-- The walk over segments: what is written so far, and what is left.
-- Assumes nothing.
use Rattle.std.proofs.Common.{◌≡◌, ℕ, ◌+◌, ◌-◌, ◌<◌, ◌≤◌, min, true, List, [], ◌++◌, length, take, drop, sym, refl, ap, ◌∙◌, append_assoc, add-one, arith, length-append, drop_of_length-le, length-take, drop-drop}
use lib.Seq.{take-nil}
use Rattle.model.specs.Lists.{walk_of, moved}
use Rattle.model.specs.Answers.{over, Walked}
use Rattle.model.proofs.Writing.{length_moved, over_none, over-length, over-take, over-drop, walks_none}
use Rattle.directory.specs.Directory.{stated_segments, stated_count, start_at, count_at, ordinal_at, rows_before, entry_of}
use Rattle.directory.specs.declared.Segment.{Segment}
use Rattle.directory.proofs.Facts.{Holds}
use Rattle.directory.proofs.Walks.{Walking, walking_next, walking_end, walking_full}
use Rattle.fields.specs.Le.{Bytes}
use Rattle.segmented.specs.Segmented.{part_names, segmented_names, segmented_accepts, WalkedAt}
use Rattle.segmented.proofs.Named.{directory_of, parts_named, segmented_length}

-- rows stand in front of the lent slice, at in number, and from row number `from` of segment i on the walk goes on
pub record Going (xs : List ℕ) (k : ℕ) (before out : List ℕ) (i from at : ℕ) : Type 0 where
  pub rows : List ℕ
  pub size : length rows ≡ at
  pub fits : at ≤ length before
  pub front : out ≡ over rows before
  pub walking : Walking xs (part_names xs) k (length before) i from rows

-- ---- the loop

pub going_start : (xs : List ℕ) (before : List ℕ) (i skip : ℕ) → i < stated_segments xs → skip ≤ count_at xs i → Going xs (rows_before xs i + skip) before before i skip 0
going_start xs before i skip h l =
    let e : length before - 0 ≡ length before = omega arith in
    record { rows = []; size = refl; fits = omega arith; front = sym (over_none before); walking = record { within = omega arith; rows = λ m. l; whole = rw e refl } }

-- more rows behind those that stand already
over_more : (rows W before : List ℕ) → rows ++ over W (drop (length rows) before) ≡ over (rows ++ W) before
unfolding over
over_more rows W before = rw (drop-drop (length W) (length rows) before, length-append rows W) (sym (append_assoc rows W (drop (length rows + length W) before)))

module _ (span : ℕ) (xs : List ℕ) (ok : segmented_accepts span xs ≡ true) (bytes : Bytes xs) {before out : List ℕ} {k i from at : ℕ} (g : Going xs k before out i from at) where
  pub going_length : length out ≡ length before
  going_length = ap length g.front ∙ over-length g.rows before (omega (arith, g.size, g.fits))

  -- what was written behind, from segment i
  module _ {after part : List ℕ} {n : ℕ} (h : i < stated_segments xs) (p : part ≡ moved (start_at xs i) (walk_of (part_names xs i) from (length out - at))) (w : WalkedAt part at out after n) where
    pub going_room : at + n ≤ length before
    going_room =
        let m : length part ≡ min (length out - at) (length (drop from (part_names xs i))) =
        ap length p ∙ length_moved (start_at xs i) (walk_of (part_names xs i) from (length out - at)) ∙ length-take (length out - at) (drop from (part_names xs i)) in
        omega (arith, w.number, going_length, g.fits)

    pub going_next : span ≤ 4294967295 → Going xs k before after (i + 1) 0 (at + n)
    going_next small =
        let gs = g.size in
        let left : length out - at ≡ length before - length g.rows = omega (arith, going_length) in
        let whole : take at out ++ over part (drop at out) ≡ over (g.rows ++ part) before =
        rw (g.front, ← gs, over-take g.rows before, over-drop g.rows before) (over_more g.rows part before) in
        record {
          rows = g.rows ++ part;
          size = length-append g.rows part ∙ omega (arith, w.number);
          fits = going_room;
          front = w.written ∙ whole;
          walking = rw (add-one i) (walking_next (directory_of span xs ok) (parts_named span xs ok bytes) small g.walking h (rw left at p));
        }

  -- what the walk leaves when it stops: the segments are passed, or no room is left
  stopped : walk_of (segmented_names xs) k (length before) ≡ g.rows → Walked (walk_of (segmented_names xs) k (length before)) before out at
  stopped e = record { written = rw e g.front; number = rw e (sym g.size) }

  pub going_end : stated_segments xs ≤ i → Walked (walk_of (segmented_names xs) k (length before)) before out at
  unfolding segmented_names
  going_end h = stopped (walking_end (directory_of span xs ok) (parts_named span xs ok bytes) g.walking h)

  pub going_full : length before ≤ at → Walked (walk_of (segmented_names xs) k (length before)) before out at
  unfolding segmented_names
  going_full h = stopped (walking_full (directory_of span xs ok) (parts_named span xs ok bytes) g.walking (omega (arith, g.size)))

-- ---- the whole walk

module _ (span : ℕ) (xs : List ℕ) (ok : segmented_accepts span xs ≡ true) (bytes : Bytes xs) (k : ℕ) (before : List ℕ) where
  -- past the last ordinal nothing is written
  pub walk_none : {count : ℕ} → count ≡ stated_count xs → count ≤ k → Walked (walk_of (segmented_names xs) k (length before)) before before 0
  walk_none e h =
      let past : drop k (segmented_names xs) ≡ [] = drop_of_length-le (segmented_names xs) {i = k} (omega (arith, segmented_length span xs ok bytes)) in
      walks_none before (rw past (take-nil (length before)))

  -- the walk from row number k - ordinal of the segment that holds k
  pub walk_held : {e : Segment} {after : List ℕ} {n i : ℕ} → Holds xs (stated_segments xs) k i → e ≡ entry_of xs i
      → Walked (walk_of (segmented_names xs) (rows_before xs i + (k - e.ordinal)) (length before)) before after n → Walked (walk_of (segmented_names xs) k (length before)) before after n
  unfolding entry_of
  walk_held {e} {i = i} h q w =
      let o : e.ordinal ≡ ordinal_at xs i = rw q in
      let s : rows_before xs i + (k - e.ordinal) ≡ k = omega (arith, h.from, ((directory_of span xs ok).fit i h.inside).ordinal) in
      rw s at w

  pub held_skip : {e : Segment} {i : ℕ} → Holds xs (stated_segments xs) k i → e ≡ entry_of xs i → k - e.ordinal ≤ count_at xs i
  unfolding entry_of
  held_skip {e} {i} h q =
      let o : e.ordinal ≡ ordinal_at xs i = rw q in
      omega (arith, h.within)
