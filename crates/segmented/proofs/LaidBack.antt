-- T2 for tag 9: an accepted body is the layout of its own segments, and they fit.
-- Assumes nothing.
use Rattle.std.proofs.Common.{◌≡◌, ℕ, zero, suc, ◌+◌, ◌*◌, ◌<◌, ◌≤◌, true, List, ◌++◌, length, drop, sym, refl, ap, ◌∙◌, append_assoc, append-nil, arith, take-append-drop, drop-drop}
use lib.Seq.{drop-length}
use Rattle.fields.specs.Le.{le, digits, Bytes}
use Rattle.fields.proofs.Laws.{le_bound, next_field}
use Rattle.model.specs.Tests.{flat, total}
use Rattle.model.proofs.Tests.{flat-same}
use Rattle.model.proofs.Sums.{total-same}
use Rattle.search.specs.Search.{entry}
use Rattle.forms.proofs.Laws.{local_rising, local_length, local_layout_lem}
use Rattle.forms.proofs.Bounds.{dense_all}
use Rattle.directory.specs.Directory.{stated_segments, start_at, span_at, count_at, offset_at, length_at, tag_at, part_of, directory_size, end_before, rows_before, bytes_before, piece_of, names_of}
use Rattle.directory.specs.Layout.{entry_layout, directory_layout}
use Rattle.directory.proofs.Parts.{Directory}
use Rattle.directory.proofs.Facts.{payload-length}
use Rattle.segmented.specs.Segmented.{segmented_accepts, segmented_names, part_accepts, part_names}
use Rattle.segmented.specs.Cuts.{Segment, payload, SegmentFits, entries_for, cut_layout, cut_rows, CutFits}
use Rattle.segmented.proofs.Named.{directory_of, accepted_parts, part_bytes}

-- segment i of a body, as its entry states it, with the rows that its part names
abbrev pub segment_in : List ℕ → ℕ → Segment
segment_in xs i = record { start = start_at xs i; span = span_at xs i; tag = tag_at xs i; own = part_names xs i }

-- ---- a list in pieces, each where the one before it ends

-- from a up to b stand ys
record Stands (xs : List ℕ) (a b : ℕ) (ys : List ℕ) : Type 0 where
  so : drop a xs ≡ ys ++ drop b xs

module _ {xs : List ℕ} where
  behind : {a b c : ℕ} {ys zs : List ℕ} → Stands xs a b ys → Stands xs b c zs → Stands xs a c (ys ++ zs)
  behind {c = c} {ys = ys} {zs = zs} p q = record { so = p.so ∙ ap (λ (r : List ℕ). ys ++ r) q.so ∙ sym (append_assoc ys zs (drop c xs)) }

  pieces : (g : ℕ → List ℕ) (at : ℕ → ℕ) (n : ℕ) → ((i : ℕ) → i < n → Stands xs (at i) (at (suc i)) (g i)) → Stands xs (at 0) (at n) (flat g n)
  unfolding flat
  pieces g at zero h = record { so = refl }
  pieces g at (suc n) h = behind (pieces g at n (λ i l. h i (omega arith))) (h n (omega arith))

  -- the next field, at a place and with a value that are known otherwise
  field : Bytes xs → (w at at' v : ℕ) → at + w ≤ length xs → at + w ≡ at' → le w xs at ≡ v → Stands xs at at' (digits w v)
  field bytes w at at' v h p q = record { so = next_field w xs at bytes h ∙ rw (p, q) }

module _ (span : ℕ) (xs : List ℕ) (ok : segmented_accepts span xs ≡ true) (bytes : Bytes xs) where
  abbrev n : ℕ
  n = stated_segments xs

  abbrev at : ℕ → Segment
  at = segment_in xs

  abbrev counts : ℕ → ℕ
  counts i = length (part_names xs i)

  abbrev sizes : ℕ → ℕ
  sizes i = length (payload (at i))

  d : Directory xs span n
  d = directory_of span xs ok

  -- ---- what an entry states is so of its part

  part_layout : (i : ℕ) → i < n → part_of xs i ≡ payload (at i)
  unfolding part_accepts part_names
  part_layout i l = local_layout_lem (tag_at xs i) (part_of xs i) (span_at xs i) (count_at xs i) (accepted_parts span xs ok i l) (part_bytes span xs ok bytes i)

  count_is : (i : ℕ) → i < n → count_at xs i ≡ counts i
  unfolding part_accepts part_names
  count_is i l = sym (local_length (tag_at xs i) (part_of xs i) (span_at xs i) (count_at xs i) (accepted_parts span xs ok i l) (part_bytes span xs ok bytes i))

  size_is : (i : ℕ) → i < n → length_at xs i ≡ sizes i
  size_is i l = sym (payload-length d i l) ∙ ap length (part_layout i l)

  rows_are : (i : ℕ) → i ≤ n → rows_before xs i ≡ total counts i
  rows_are i h = total-same (count_at xs) counts i (λ j l. count_is j (omega arith))

  bytes_are : (i : ℕ) → i ≤ n → bytes_before xs i ≡ total sizes i
  bytes_are i h = total-same (length_at xs) sizes i (λ j l. size_is j (omega arith))

  -- ---- where the pieces stand

  abbrev entry_place : ℕ → ℕ
  entry_place i = 4 + i * 16

  abbrev part_place : ℕ → ℕ
  part_place i = directory_size n + bytes_before xs i

  entry_is : (i : ℕ) → i < n → Stands xs (entry_place i) (entry_place (suc i)) (entry_layout (entries_for at) n i)
  unfolding entry_layout entries_for entry
  entry_is i l =
      let f = d.fit i l in
      let room : 20 + i * 16 ≤ length xs = omega (arith, d.room) in
      behind (field bytes 4 (4 + i * 16) (8 + i * 16) (start_at xs i) (omega arith) (omega arith) refl)
      (behind (field bytes 2 (8 + i * 16) (10 + i * 16) (span_at xs i) (omega arith) (omega arith) refl)
      (behind (field bytes 2 (10 + i * 16) (12 + i * 16) (counts i) (omega arith) (omega arith) (count_is i l))
      (behind (field bytes 2 (12 + i * 16) (14 + i * 16) (total counts i) (omega arith) (omega arith) (f.ordinal ∙ rows_are i (omega arith)))
      (behind (field bytes 2 (14 + i * 16) (16 + i * 16) (directory_size n + total sizes i) (omega arith) (omega arith) (f.payload ∙ rw (bytes_are i (omega arith))))
      (behind (field bytes 2 (16 + i * 16) (18 + i * 16) (sizes i) (omega arith) (omega arith) (size_is i l))
      (behind (field bytes 1 (18 + i * 16) (19 + i * 16) (tag_at xs i) (omega arith) (omega arith) refl)
      (field bytes 1 (19 + i * 16) (entry_place (suc i)) 0 (omega arith) (omega arith) f.blank)))))))

  directory_is : Stands xs 0 (part_place 0) (directory_layout (entries_for at) n)
  unfolding directory_layout entries_for total
  directory_is =
      let four : 4 ≤ length xs = omega (arith, d.room) in
      let end : entry_place n ≡ part_place 0 = omega arith in
      behind (field bytes 2 0 2 (total counts n) (omega arith) refl (sym d.sum ∙ rows_are n (omega arith)))
      (behind (field bytes 2 2 4 n (omega arith) refl refl) (rw (← end) (pieces (entry_layout (entries_for at) n) entry_place n entry_is)))

  part_is : (i : ℕ) → i < n → Stands xs (part_place i) (part_place (suc i)) (part_of xs i)
  unfolding part_of total
  part_is i l =
      let e : offset_at xs i ≡ part_place i = (d.fit i l).payload in
      let s : part_place i + length_at xs i ≡ part_place (suc i) = omega arith in
      record { so = rw (e, ← s, ← drop-drop (length_at xs i) (part_place i) xs) (sym (take-append-drop (length_at xs i) (drop (part_place i) xs))) }

  parts_are : drop (part_place 0) xs ≡ flat (part_of xs) n
  parts_are = (pieces (part_of xs) part_place n part_is).so ∙ rw (d.end, drop-length xs) (append-nil (flat (part_of xs) n))

  -- ---- the body, its rows, and that its segments fit

  pub body_laid : xs ≡ cut_layout at n
  unfolding cut_layout
  body_laid =
      directory_is.so
      ∙ ap (λ (r : List ℕ). directory_layout (entries_for at) n ++ r) (parts_are ∙ flat-same (part_of xs) (λ (i : ℕ). payload (at i)) n part_layout)

  pub rows_cut : segmented_names xs ≡ cut_rows at n
  unfolding segmented_names names_of piece_of cut_rows
  rows_cut = refl

  dense_full : (i : ℕ) → i < n → tag_at xs i ≡ 1 → counts i ≡ span_at xs i
  unfolding part_accepts
  dense_full i l e = sym (count_is i l) ∙ dense_all (part_of xs i) (span_at xs i) (count_at xs i) (rw e at (accepted_parts span xs ok i l))

  u16 : (at : ℕ) → le 2 xs at ≤ 65535
  u16 at = omega (arith, le_bound 2 xs at bytes)

  offset_small : (i : ℕ) → offset_at xs i ≤ 65535
  unfolding entry
  offset_small i = u16 (14 + i * 16)

  segment_fits_lem : (i : ℕ) → i < n → SegmentFits span (at i)
  unfolding part_accepts part_names entry
  segment_fits_lem i l =
      let f = d.fit i l in
      record {
        within = f.within;
        narrow = u16 (8 + i * 16);
        held = record {
          rising = local_rising (tag_at xs i) (part_of xs i) (span_at xs i) (count_at xs i) (accepted_parts span xs ok i l) (part_bytes span xs ok bytes i);
          some = rw (count_is i l) at f.rows.some;
          most = rw (count_is i l) at f.rows.most;
        };
        local = f.local;
        full = dense_full i l;
        short = rw (size_is i l) at (u16 (16 + i * 16));
      }

  pub cut_fits : CutFits span n at
  unfolding end_before
  cut_fits = record {
    some = d.some;
    most = u16 2;
    each = segment_fits_lem;
    apart = λ i l. (d.fit (suc i) l).apart;
    few = omega (arith, rows_are n (omega arith), d.sum, d.rows.most);
    offsets = λ i l. omega (arith, bytes_are i (omega arith), (d.fit i l).payload, offset_small i);
  }
