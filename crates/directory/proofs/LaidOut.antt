-- A directory that was laid out reads back: the fields, with ordinals and offsets as running sums, and the payloads.
-- Assumes nothing.
use mathlib.Core.Path.{◌≡◌, refl, sym, ap, ◌∙◌}
use mathlib.Core.Bool.{true}
use mathlib.Core.List.{List, ◌++◌}
use Prim.Native.Nat.{ℕ, zero, suc, ◌+◌, ◌-◌, ◌*◌, ◌<◌, ◌≤◌}
use native.Mathlib.Omega.{arith}
use lib.ListN.{length, length-append}
use lib.Seq.{drop-append-add, take_at}
use Rattle.fields.specs.Le.{le, digits}
use Rattle.fields.proofs.Laws.{le-digits, length_digits}
use Rattle.fields.proofs.Tables.{le_first, le_second, le_head, le_next}
use Rattle.model.specs.Tests.{flat, total}
use Rattle.model.specs.Lists.{shift}
use Rattle.model.proofs.Tests.{flat-same}
use Rattle.model.proofs.Sums.{total_within, total-same, total_constant, flat-total}
use Rattle.model.proofs.Pieces.{flat_split, flat_rest}
use Rattle.model.proofs.Counted.{Count}
use Rattle.search.specs.Search.{entry}
use Rattle.directory.specs.Directory.{stated_count, stated_segments, zero_at, entry_of, part_of, rows_before, bytes_before, directory_size, end_before, is_local, directory_accepts, piece_of, names_of}
use Rattle.directory.specs.Layout.{Plan, entry_layout, directory_layout}
use Rattle.directory.specs.declared.Segment.{Segment}
use Rattle.directory.proofs.Parts.{Fit, Directory, directory_accepts_lem}

-- ---- one entry

pub length-entry : (s : Plan) (n i : ℕ) → length (entry_layout s n i) ≡ 16
unfolding entry_layout
length-entry s n i = simp (length-append, length_digits)

-- what the fields have room for: each offset, so that the last part may reach past 65,535
pub record Small (s : Plan) (n : ℕ) : Type 0 where
  pub segments : n < 65536
  pub rows : total s.count n < 65536
  pub offset : (i : ℕ) → i < n → directory_size n + total s.size i < 65536
  pub size : (i : ℕ) → i < n → s.size i < 65536
  pub start : (i : ℕ) → i < n → s.start i < 4294967296
  pub span : (i : ℕ) → i < n → s.span i < 65536
  pub tag : (i : ℕ) → i < n → s.tag i < 256

-- ---- the fields of one entry

module _ (s : Plan) (n i : ℕ) (m : Small s n) (l : i < n) where
  start_laid : le 4 (entry_layout s n i) 0 ≡ s.start i
  unfolding entry_layout
  start_laid = le_head 4 _ _ (m.start i l)

  span_laid : le 2 (entry_layout s n i) 4 ≡ s.span i
  unfolding entry_layout
  span_laid = le_next 2 4 _ _ 0 ∙ le_head 2 _ _ (m.span i l)

  count_laid : le 2 (entry_layout s n i) 6 ≡ s.count i
  unfolding entry_layout
  count_laid = le_next 2 4 _ _ 2 ∙ le_next 2 2 _ _ 0 ∙ le_head 2 _ _ (omega (arith, total_within s.count i n l, m.rows))

  ordinal_laid : le 2 (entry_layout s n i) 8 ≡ total s.count i
  unfolding entry_layout
  ordinal_laid = le_next 2 4 _ _ 4 ∙ le_next 2 2 _ _ 2 ∙ le_next 2 2 _ _ 0 ∙ le_head 2 _ _ (omega (arith, total_within s.count i n l, m.rows))

  offset_laid : le 2 (entry_layout s n i) 10 ≡ directory_size n + total s.size i
  unfolding entry_layout
  offset_laid = le_next 2 4 _ _ 6 ∙ le_next 2 2 _ _ 4 ∙ le_next 2 2 _ _ 2 ∙ le_next 2 2 _ _ 0 ∙ le_head 2 _ _ (m.offset i l)

  length_laid : le 2 (entry_layout s n i) 12 ≡ s.size i
  unfolding entry_layout
  length_laid = le_next 2 4 _ _ 8 ∙ le_next 2 2 _ _ 6 ∙ le_next 2 2 _ _ 4 ∙ le_next 2 2 _ _ 2 ∙ le_next 2 2 _ _ 0 ∙ le_head 2 _ _ (m.size i l)

  tag_laid : le 1 (entry_layout s n i) 14 ≡ s.tag i
  unfolding entry_layout
  tag_laid = le_next 1 4 _ _ 10 ∙ le_next 1 2 _ _ 8 ∙ le_next 1 2 _ _ 6 ∙ le_next 1 2 _ _ 4 ∙ le_next 1 2 _ _ 2 ∙ le_next 1 2 _ _ 0 ∙ le_head 1 _ _ (m.tag i l)

  zero_laid : le 1 (entry_layout s n i) 15 ≡ 0
  unfolding entry_layout
  zero_laid = le_next 1 4 _ _ 11 ∙ le_next 1 2 _ _ 9 ∙ le_next 1 2 _ _ 7 ∙ le_next 1 2 _ _ 5 ∙ le_next 1 2 _ _ 3 ∙ le_next 1 2 _ _ 1 ∙ le_next 1 1 _ _ 0 ∙ le-digits 1 0

-- ---- the whole directory

-- entry i of n, by the plan: ordinal and offset are running sums
abbrev pub entry_for : Plan → ℕ → ℕ → Segment
entry_for s n i = record { start = s.start i; span = s.span i; count = s.count i; ordinal = total s.count i; offset = directory_size n + total s.size i; length = s.size i; tag = s.tag i }

pub length_entries : (s : Plan) (n i : ℕ) → length (flat (entry_layout s n) i) ≡ 16 * i
length_entries s n i = flat-total (entry_layout s n) (λ (_ : ℕ). 16) i (λ j l. length-entry s n j) ∙ total_constant 16 i

pub length_layout : (s : Plan) (n : ℕ) → length (directory_layout s n) ≡ directory_size n
unfolding directory_layout
length_layout s n = simp (length-append, length_digits) (omega (arith, length_entries s n n))

module _ (s : Plan) (n : ℕ) (ys : List ℕ) where
  pub count_stated : Small s n → stated_count (directory_layout s n ++ ys) ≡ total s.count n
  unfolding directory_layout
  count_stated m = le_first 2 (directory_layout s n) ys 0 (omega (arith, length_layout s n)) ∙ le_head 2 (total s.count n) (digits 2 n ++ flat (entry_layout s n) n) m.rows

  pub segments_stated : Small s n → stated_segments (directory_layout s n ++ ys) ≡ n
  unfolding directory_layout
  segments_stated m = le_first 2 (directory_layout s n) ys 2 (omega (arith, length_layout s n)) ∙ le_next 2 2 (total s.count n) (digits 2 n ++ flat (entry_layout s n) n) 0 ∙ le_head 2 n (flat (entry_layout s n) n) m.segments

  -- a field of entry i
  field_laid : (w base off i : ℕ) → base ≡ 4 + off → off + w ≤ 16 → i < n → entry w (directory_layout s n ++ ys) base 16 i ≡ le w (entry_layout s n i) off
  unfolding directory_layout entry
  field_laid w base off i q h l =
      let rest = flat (λ (j : ℕ). entry_layout s n (suc i + j)) (n - suc i) in
      let e : base + i * 16 ≡ 2 + (2 + (16 * i + off)) = omega arith in
      rw e (le_first w (directory_layout s n) ys (2 + (2 + (16 * i + off))) (omega (arith, length_layout s n))
      ∙ le_next w 2 (total s.count n) (digits 2 n ++ flat (entry_layout s n) n) (2 + (16 * i + off)) ∙ le_next w 2 n (flat (entry_layout s n) n) (16 * i + off)
      ∙ ap (λ (zs : List ℕ). le w zs (16 * i + off)) (flat_split (entry_layout s n) n i l)
      ∙ le_second w (flat (entry_layout s n) i) (entry_layout s n i ++ rest) (16 * i) off (length_entries s n i)
      ∙ le_first w (entry_layout s n i) rest off (omega (arith, length-entry s n i)))

  -- entry i reads back
  pub entry_laid : Small s n → (i : ℕ) → i < n
      → entry_of (directory_layout s n ++ ys) i ≡ entry_for s n i
  unfolding entry_of
  entry_laid m i l =
      rw (
        field_laid 4 4 0 i refl (omega arith) l ∙ start_laid s n i m l,
        field_laid 2 8 4 i refl (omega arith) l ∙ span_laid s n i m l,
        field_laid 2 10 6 i refl (omega arith) l ∙ count_laid s n i m l,
        field_laid 2 12 8 i refl (omega arith) l ∙ ordinal_laid s n i m l,
        field_laid 2 14 10 i refl (omega arith) l ∙ offset_laid s n i m l,
        field_laid 2 16 12 i refl (omega arith) l ∙ length_laid s n i m l,
        field_laid 1 18 14 i refl (omega arith) l ∙ tag_laid s n i m l,
      )

  pub nought_laid : Small s n → (i : ℕ) → i < n → zero_at (directory_layout s n ++ ys) i ≡ 0
  nought_laid m i l = field_laid 1 19 15 i refl (omega arith) l ∙ zero_laid s n i m l

-- ---- what is laid out is accepted, and holds the payloads

-- the segments of a plan stand in the span as an accepted directory's do
pub record Sound (s : Plan) (span n : ℕ) : Type 0 where
  pub some : 1 ≤ n
  pub few : total s.count n ≤ span
  pub within : (i : ℕ) → i < n → s.start i + s.span i ≤ span
  pub apart : (i : ℕ) → suc i < n → s.start i + s.span i ≤ s.start (suc i)
  pub rows : (i : ℕ) → i < n → Count (s.span i) (s.count i)
  pub local : (i : ℕ) → i < n → is_local (s.tag i) ≡ true

module _ (s : Plan) (n : ℕ) (ys : List ℕ) (m : Small s n) where
  -- a field of the entry that reads back
  part_laid : (f : Segment → ℕ) (i : ℕ) → i < n → f (entry_of (directory_layout s n ++ ys) i) ≡ f (entry_for s n i)
  part_laid f i l = ap f (entry_laid s n ys m i l)

  rows_laid : (i : ℕ) → i ≤ n → rows_before (directory_layout s n ++ ys) i ≡ total s.count i
  unfolding entry_of
  rows_laid i h = total-same _ _ i (λ j l. part_laid (λ e. e.count) j (omega arith))

  bytes_laid : (i : ℕ) → i ≤ n → bytes_before (directory_layout s n ++ ys) i ≡ total s.size i
  unfolding entry_of
  bytes_laid i h = total-same _ _ i (λ j l. part_laid (λ e. e.length) j (omega arith))

  end_laid : {span : ℕ} → Sound s span n → (i : ℕ) → i < n → end_before (directory_layout s n ++ ys) i ≤ s.start i
  unfolding entry_of end_before
  end_laid o zero l = omega arith
  end_laid o (suc i) l = omega (arith, part_laid (λ e. e.start) i (omega arith), part_laid (λ e. e.span) i (omega arith), o.apart i l)

  fit_laid : {span : ℕ} → Sound s span n → (i : ℕ) → i < n → Fit (directory_layout s n ++ ys) span n i
  unfolding entry_of
  fit_laid o i l =
      let start = part_laid (λ e. e.start) i l in
      let size = part_laid (λ e. e.span) i l in
      let count = part_laid (λ e. e.count) i l in
      record {
        apart = rw start (end_laid o i l);
        within = rw (start, size) (o.within i l);
        rows = rw (size, count) (o.rows i l);
        local = rw (part_laid (λ e. e.tag) i l) (o.local i l);
        blank = nought_laid s n ys m i l;
        ordinal = part_laid (λ e. e.ordinal) i l ∙ sym (rows_laid i (omega arith));
        payload = part_laid (λ e. e.offset) i l ∙ rw (bytes_laid i (omega arith));
      }

  -- a writer's directory is accepted, whatever the payloads are, if their bytes are as many as the plan says
  pub laid_directory : {span : ℕ} → Sound s span n → length ys ≡ total s.size n → Directory (directory_layout s n ++ ys) span n
  laid_directory {span} o e =
      let size : length (directory_layout s n ++ ys) ≡ directory_size n + total s.size n = length-append (directory_layout s n) ys ∙ rw (length_layout s n, e) in
      let stated = count_stated s n ys m in
      record {
        some = o.some;
        room = omega (arith, size);
        rows = rw stated (record { some = omega (arith, (o.rows 0 o.some).some, total_within s.count 0 n o.some); within = o.few; most = omega (arith, m.rows) });
        fit = λ i l. fit_laid o i l;
        sum = rows_laid n (omega arith) ∙ sym stated;
        end = rw (bytes_laid n (omega arith)) (sym size);
      }

  pub laid_accepts : {span : ℕ} → Sound s span n → length ys ≡ total s.size n → directory_accepts (directory_layout s n ++ ys) span ≡ true
  laid_accepts {span} o e =
      let stated = segments_stated s n ys m in
      directory_accepts_lem (directory_layout s n ++ ys) span (rw stated (laid_directory o e))

  -- what is named, by the plan's starts
  pub names_laid : (g : ℕ → List ℕ) → names_of (directory_layout s n ++ ys) g ≡ flat (λ (i : ℕ). shift (s.start i) (g i)) n
  unfolding names_of piece_of entry_of
  names_laid g = rw (segments_stated s n ys m) (flat-same _ _ n (λ i l. rw (part_laid (λ e. e.start) i l)))

-- the payloads read back
pub payload_laid : (s : Plan) (n : ℕ) (part : ℕ → List ℕ) → Small s n → ((i : ℕ) → i < n → length (part i) ≡ s.size i) → (i : ℕ) → i < n
    → part_of (directory_layout s n ++ flat part n) i ≡ part i
unfolding part_of entry_of
payload_laid s n part m h i l =
    let rest = flat (λ (j : ℕ). part (suc i + j)) (n - suc i) in
    let offset = part_laid s n (flat part n) m (λ e. e.offset) i l in
    let size = part_laid s n (flat part n) m (λ e. e.length) i l in
    let front : total s.size i ≡ length (flat part i) = sym (flat-total part s.size i (λ j q. h j (omega arith))) in
    rw (size, offset, ← length_layout s n, drop-append-add (directory_layout s n) (flat part n) (total s.size i), front, flat_rest part n i l) (take_at (part i) rest (s.size i) (h i l))
