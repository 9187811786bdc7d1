-- The segmented body, segment after segment: what each asks, what it leaves, and when all are written.
-- Assumes nothing.
use mathlib.Core.Path.{◌≡◌, refl, sym, ap, ap₂, ◌∙◌}
use mathlib.Core.List.{List, [], ◌++◌, map}
use Prim.Native.Nat.{ℕ, suc, ◌+◌, ◌-◌, ◌<◌, ◌≤◌}
use native.Mathlib.Numerals.{add-one}
use native.Mathlib.Omega.{arith}
use lib.ListN.{length, get_or, take, drop, length-append, length-drop}
use lib.Seq.{drop-drop, get_or-drop, take_at, drop_at}
use Rattle.std.proofs.lemmas.List.{take-map, drop-map}
use Rattle.fields.specs.Le.{digits}
use Rattle.model.specs.Tests.{flat, total}
use Rattle.model.proofs.Tests.{flat_length_step}
use Rattle.model.proofs.Pieces.{flat_length_le}
use Rattle.model.proofs.Sums.{flat-total}
use Rattle.model.proofs.Rising.{rising_take, rising_drop, rising_ends}
use Rattle.model.specs.Lists.{Rising, positions_of}
use Rattle.stats.specs.declared.Stats.{Stats}
use Rattle.stats.specs.Statistics.{stats_of, span_of}
use Rattle.stats.specs.Rows.{Covered}
use Rattle.cost.specs.declared.Form.{Form}
use Rattle.cost.specs.Forms.{local_form}
use Rattle.model.proofs.Positions.{length_positions, positions_take, positions_drop}
use Rattle.stats.proofs.Positions.{stats_rows, covered_sound}
use Rattle.single.specs.Layout.{first_of, extent_of}
use Rattle.links.specs.Tables.{next, stat_at}
use Rattle.directory.specs.Directory.{directory_size}
use Rattle.directory.specs.Layout.{directory_layout}
use Rattle.directory.proofs.LaidOut.{entry_for}
use Rattle.forms.specs.Forms.{local_layout}
use Rattle.directory.specs.declared.Segment.{Segment}
use Rattle.emit.specs.Written.{Written}
use Rattle.encode.specs.Headers.{entry_bytes}
use Rattle.encode.specs.Segments.{Placed}
use Rattle.encode.proofs.Wholes.{ends_in, trimmed_extent, trimmed_own}
use Rattle.encode.proofs.Directories.{Laying, laying_start, laying_length, laying_next, laying_end}
use Rattle.planning.specs.Bodies.{segment_at, tag_of, payload_of, entries_of, payload_at, segmented_layout}
use Rattle.planning.specs.Held.{Held}
use Rattle.planning.proofs.Parts.{tag_small}
use Rattle.planning.proofs.Segmented.{layout_length}
use Rattle.planning.proofs.Holding.{held_same}
use Rattle.assemble.proofs.Records.{Ahead, ahead, behind}
use Rattle.assemble.specs.Emission.{payload_by, entry_by, Small, Piece, Emittable, Emitted}

-- ---- one segment, by its statistics

module _ (s : Stats) (rows : List ℕ) where
  abbrev layout_of : Form → List ℕ
  layout_of f = local_layout f.tag (span_of s) (positions_of (get_or rows 0 0) rows)

  by_form : {f : Form} → f ≡ local_form s → payload_by s rows ≡ layout_of f
  unfolding payload_by
  by_form e = rw e

  pub piece_asks : {f : Form} {at i ordinal room : ℕ} → Piece s rows at i ordinal room → f ≡ local_form s → (Rising (get_or rows 0 0) (get_or rows 0 0 + span_of s) rows) × (length rows ≤ 65535) × (at + length (layout_of f) ≤ room)
  piece_asks p e = (p.rising, omega (arith, p.count, p.small.count), rw (by_form e) at p.fits)

  pub piece_entry : {f : Form} {at i ordinal room r : ℕ} {xs ys : List ℕ} → Piece s rows at i ordinal room → f ≡ local_form s → Written (layout_of f) at xs ys r → Small s ordinal at (r - at)
  piece_entry {at = at} {r = r} p e w =
      let size : r - at ≡ length (payload_by s rows) = rw (by_form e) (omega (arith, w.behind)) in
      rw size p.small

  pub piece_placed : (i ordinal : ℕ) {f : Form} {place at r q : ℕ} {g : Segment} {xs ys zs : List ℕ} → f ≡ local_form s → Written (layout_of f) at xs ys r → place ≡ directory_size i → g ≡ entry_by s f.tag ordinal at (r - at) → Written (entry_bytes g) place ys zs q
      → Placed (directory_size i) at (entry_by s (local_form s).tag ordinal at (length (payload_by s rows))) (payload_by s rows) xs zs r
  piece_placed i ordinal {at = at} {r = r} {q = q} {ys = ys} e w l d v =
      let size : r - at ≡ length (payload_by s rows) = rw (by_form e) (omega (arith, w.behind)) in
      record { between = ys; body = rw (by_form e) w; behind = q; entry = rw (← e, ← size, ← d, ← l) v }

placed_same : {place at r : ℕ} {e f : Segment} {us vs xs ys : List ℕ} → e ≡ f → us ≡ vs → Placed place at e us xs ys r → Placed place at f vs xs ys r
placed_same p q w = rw (← p, ← q) w

-- ---- rows in a coverage, with the statistics of their positions

-- the entry of a segment
abbrev own_entry : List ℕ → ℕ → ℕ → ℕ → Segment
own_entry rows ordinal offset size = record { start = first_of rows; span = extent_of rows; count = length rows; ordinal = ordinal; offset = offset; length = size; tag = tag_of rows }

module _ (start : ℕ) (rows : List ℕ) (k : Covered start rows) where
  abbrev P : List ℕ
  P = positions_of start rows

  span_own : span_of (stats_of P) ≡ get_or rows (length rows - 1) 0 - get_or rows 0 0 + 1
  span_own =
      let e = ends_in start rows k in
      ap (λ (s : Stats). span_of s) (stats_rows start rows k) ∙ omega (arith, e.0, e.1)

  payload_own : payload_by (stats_of P) rows ≡ payload_of P
  unfolding payload_by payload_of tag_of
  payload_own = rw (trimmed_own start rows k, trimmed_extent start rows k, span_own)

  entry_own : (ordinal offset size : ℕ) → entry_by (stats_of P) (local_form (stats_of P)).tag ordinal offset size ≡ own_entry P ordinal offset size
  unfolding entry_by stats_of first_of tag_of
  entry_own ordinal offset size = rw (trimmed_extent start rows k, span_own)

  piece_own : {at i ordinal room : ℕ} → span_of (stats_of P) ≤ 65535 → ordinal ≤ 65535 → at + length (payload_of P) ≤ 65535 → at + length (payload_of P) ≤ room → i ≤ 65535 → directory_size i + 16 ≤ room → Piece (stats_of P) rows at i ordinal room
  unfolding stats_of
  piece_own short o all fits index entry =
      let sound = covered_sound start rows k in
      record {
        sound = sound;
        some = k.some;
        count = length_positions start rows;
        rising = rising_ends k.rising span_own;
        small = rw payload_own (record { ordered = sound.ordered; short = short; count = omega (arith, sound.inside); ordinals = o; offsets = omega arith; sizes = omega arith });
        fits = rw payload_own fits;
        index = index;
        entry = entry;
      }

-- ---- the walk

-- the numbers of a part of the rows
pub part_numbers : {A : Type 0} (f : A → ℕ) (size a : ℕ) (rows : List A) → map f (take size (drop a rows)) ≡ take size (drop a (map f rows))
part_numbers f size a rows = rw (drop-map f a rows, take-map f size (drop a rows))

-- i segments of a rows stand in out, and the records lead on from x through the rest
pub record Placing (n : ℕ) (t : List ℕ) (start : ℕ) (rows : List ℕ) (m : ℕ) (before : List ℕ) (x i a at : ℕ) (out : List ℕ) : Type 0 where
  pub given : Emittable n t start rows m (length before)
  pub rest : Held n t x (positions_of start (drop a rows)) (drop i given.kept.segs)
  pub most : a ≤ length rows
  pub sum : total (entries_of given.kept.segs).count i ≡ a
  pub laying : Laying (entries_of given.kept.segs) (payload_at given.kept.segs) m i before at out

-- a directory and its room
pub directory_room : {n : ℕ} {t : List ℕ} {start : ℕ} {rows : List ℕ} {m room : ℕ} → Emittable n t start rows m room → (directory_size m ≤ 65535) × (directory_size m ≤ room)
directory_room g =
    let e = layout_length g.kept.segs in
    (omega (arith, g.short, g.count), omega (arith, g.fits, g.count))

module _ {n : ℕ} {t : List ℕ} {start : ℕ} {rows : List ℕ} {m : ℕ} {before : List ℕ} where
  pub placing_start : {at : ℕ} → at ≡ directory_size m → Emittable n t start rows m (length before) → Placing n t start rows m before 0 0 0 at before
  unfolding total
  placing_start e g = record { given = g; rest = g.kept.held; most = omega arith; sum = refl; laying = laying_start (entries_of g.kept.segs) (payload_at g.kept.segs) m before e }

  module _ {x i a at : ℕ} {out : List ℕ} (s : Placing n t start rows m before x i a at out) where
    abbrev segs : List (List ℕ)
    segs = s.given.kept.segs

    -- the segment ahead is segment i, and has the next rows
    module _ (h : Ahead n t x (positions_of start (drop a rows)) (drop i s.given.kept.segs)) where
      abbrev size : ℕ
      size = length h.seg

      abbrev next_rows : List ℕ
      next_rows = take (length h.seg) (drop a rows)

      segment_is : segment_at segs i ≡ h.seg
      unfolding segment_at
      segment_is =
          let e : i + 0 ≡ i = omega arith in
          let d : get_or (drop i segs) 0 [] ≡ get_or segs i [] = get_or-drop i segs 0 [] ∙ rw e in
          sym d ∙ ap (λ (us : List (List ℕ)). get_or us 0 []) h.all

      left : i < m
      left = omega (arith, ap length h.all, length-drop i segs, s.given.count)

      rest_segments : drop (i + 1) segs ≡ h.segs
      rest_segments = sym (drop-drop 1 i segs) ∙ ap (λ (us : List (List ℕ)). drop 1 us) h.all

      inside : a + size ≤ length rows
      inside = omega (arith, ap length h.cut, length-append h.seg h.rest, length_positions start (drop a rows), length-drop a rows, s.most)

      part_own : positions_of start next_rows ≡ h.seg
      part_own = positions_take start size (drop a rows) ∙ ap (λ (xs : List ℕ). take size xs) h.cut ∙ take_at h.seg h.rest size refl

      rest_own : positions_of start (drop (a + size) rows) ≡ h.rest
      rest_own = rw (← drop-drop size a rows) (positions_drop start size (drop a rows) ∙ ap (λ (xs : List ℕ). drop size xs) h.cut ∙ drop_at h.seg h.rest size refl)

      part_covered : Covered start next_rows
      part_covered = record {
        some = omega (arith, h.some, ap length part_own, length_positions start next_rows);
        rising = rising_take size (rising_drop a s.given.kept.covered.rising);
      }

      -- the payload ends within the body
      fits : at + length (payload_of h.seg) ≤ length (segmented_layout segs)
      unfolding payload_at
      fits =
          let g = payload_at segs in
          let here : length (payload_at segs i) ≡ length (payload_of h.seg) = ap (λ (xs : List ℕ). length (payload_of xs)) segment_is in
          let c = s.given.count in
          let l = left in
          omega (arith, s.laying.place, flat_length_step g i, flat_length_le g (suc i) (length segs) (omega arith), layout_length segs)

      module _ {u : Stats} (e : u ≡ stat_at t x) where
        count_own : u.count ≡ size
        unfolding stats_of
        count_own = rw (e, h.stats)

        taken_own : take (a + u.count - a) (drop a rows) ≡ next_rows
        taken_own = let d : a + u.count - a ≡ size = omega (arith, count_own) in ap (λ (k : ℕ). take k (drop a rows)) d

        stats_own : u ≡ stats_of (positions_of start next_rows)
        stats_own = e ∙ h.stats ∙ ap stats_of (sym part_own)

        piece_next : Piece u (take (a + u.count - a) (drop a rows)) at i a (length out)
        piece_next =
            let room : length out ≡ length before = laying_length _ _ _ _ s.laying in
            let g = s.given in
            let f : at + length (payload_of (positions_of start next_rows)) ≤ length (segmented_layout segs) = rw part_own fits in
            let d = directory_room g in
            let l = left in
            rw (taken_own, stats_own) (piece_own start next_rows part_covered (rw part_own h.short) (omega (arith, s.most, g.kept.few)) (omega (arith, g.short)) (omega (arith, g.fits)) (omega arith) (omega arith))

        payload_is : payload_by u (take (a + u.count - a) (drop a rows)) ≡ payload_of h.seg
        payload_is = rw (taken_own, stats_own) (payload_own start next_rows part_covered ∙ ap payload_of part_own)

        entry_is : entry_by u (local_form u).tag a at (length (payload_by u (take (a + u.count - a) (drop a rows)))) ≡ entry_for (entries_of segs) m i
        unfolding entries_of payload_at
        entry_is =
            let offset : directory_size m + total (entries_of segs).size i ≡ at = omega (arith, s.laying.place, flat-total (payload_at segs) (entries_of segs).size i (λ j l. refl)) in
            rw (payload_is, stats_own) (entry_own start next_rows part_covered a at (length (payload_of h.seg)) ∙ ap (λ (xs : List ℕ). own_entry xs a at (length (payload_of h.seg))) part_own
            ∙ sym (ap (λ (xs : List ℕ). own_entry xs _ _ (length (payload_of xs))) segment_is ∙ ap₂ (λ (o f : ℕ). own_entry h.seg o f (length (payload_of h.seg))) s.sum offset))

        placed_next : {out' : List ℕ} {r : ℕ} → Placed (directory_size i) at (entry_by u (local_form u).tag a at (length (payload_by u (take (a + u.count - a) (drop a rows))))) (payload_by u (take (a + u.count - a) (drop a rows))) out out' r
            → Placing n t start rows m before (next t x) (i + 1) (a + u.count) r out'
        unfolding entries_of payload_at tag_of total
        placed_next {out'} {r} p =
            let payload : payload_by u (take (a + u.count - a) (drop a rows)) ≡ payload_at segs i = payload_is ∙ ap payload_of (sym segment_is) in
            let placed : Placed (directory_size i) at (entry_for (entries_of segs) m i) (payload_at segs i) out out' r = placed_same entry_is payload p in
            record {
              given = s.given;
              rest = rw (count_own, rest_own, rest_segments) h.held;
              most = omega (arith, count_own, inside);
              sum = rw (add-one i) (omega (arith, s.sum, count_own, ap length segment_is));
              laying = laying_next (entries_of segs) (payload_at segs) m before s.laying left (tag_small (segment_at segs i)) placed;
            }

    pub turn_inside : {u : Stats} → x < n → u ≡ stat_at t x → a + u.count ≤ length rows
    turn_inside l e = let h = ahead l s.rest in omega (arith, count_own h e, inside h)

    pub turn_asks : {u : Stats} → x < n → u ≡ stat_at t x → Piece u (take (a + u.count - a) (drop a rows)) at i a (length out)
    turn_asks l e = piece_next (ahead l s.rest) e

    pub turn_next : {u : Stats} {y : ℕ} {out' : List ℕ} {r : ℕ} → x < n → u ≡ stat_at t x → Placed (directory_size i) at (entry_by u (local_form u).tag a at (length (payload_by u (take (a + u.count - a) (drop a rows))))) (payload_by u (take (a + u.count - a) (drop a rows))) out out' r
        → y ≡ next t x → Placing n t start rows m before y (i + 1) (a + u.count) r out'
    turn_next l e p q = rw q (placed_next (ahead l s.rest) e p)

    -- no segment is left: count and segments are written, and the body stands
    pub turn_end : {out' : List ℕ} {q : ℕ} → n ≤ x → Written (digits 2 a ++ digits 2 m) 0 out out' q → Emitted n t start rows before out' at
    unfolding segmented_layout
    turn_end {out'} {q} l w =
        let none = behind l s.rest in
        let all : m ≤ i = omega (arith, ap length none.1, length-drop i segs, s.given.count) in
        let same : i ≡ m = omega (arith, s.laying.upto) in
        let count : total (entries_of segs).count m ≡ a = ap (λ (k : ℕ). total (entries_of segs).count k) (sym same) ∙ s.sum in
        let front : Written (digits 2 (total (entries_of segs).count m) ++ digits 2 m) 0 out out' q = rw count w in
        let done : Written (directory_layout (entries_of segs) m ++ flat (payload_at segs) m) 0 before out' at = laying_end (entries_of segs) (payload_at segs) m before s.laying all front in
        let body : Written (segmented_layout segs) 0 before out' at = rw (← s.given.count) done in
        record { written = λ us h. rw (held_same h s.given.kept.held) body }
