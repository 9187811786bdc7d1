-- The walk over an accepted directory: what is left from an ordinal on, segment by segment, in the shape that a loop over the segments consumes.
-- Assumes nothing.
use mathlib.Core.Path.{◌≡◌, sym, ap, ◌∙◌}
use mathlib.Core.List.{List, [], ◌++◌, append_assoc, append-nil}
use Prim.Native.Nat.{ℕ, suc, ◌+◌, ◌-◌, ◌<◌, ◌≤◌}
use native.Mathlib.Nat.{add-zero}
use native.Mathlib.Omega.{arith}
use lib.ListN.{length, take, drop, length-append, length-take, drop_of_length-le}
use lib.Seq.{drop-append-add, drop-append-le, take-nil}
use Rattle.model.specs.Tests.{flat, total}
use Rattle.model.specs.Lists.{shift, moved, walk_of}
use Rattle.model.proofs.Append.{shift-drop}
use Rattle.model.proofs.Taking.{take-append}
use Rattle.model.proofs.Pieces.{flat_split}
use Rattle.model.proofs.Writing.{moved_walk}
use Rattle.directory.specs.Directory.{stated_segments, start_at, count_at, rows_before, piece_of, names_of}
use Rattle.directory.proofs.Parts.{Directory}
use Rattle.directory.proofs.Names.{Named, piece_length, front_length, names-length}

-- ---- what is left

-- i segments are passed, and skip rows of segment i: what was written and what a walk from there writes is the whole answer
pub record Walking (xs : List ℕ) (g : ℕ → List ℕ) (k room i skip : ℕ) (written : List ℕ) : Type 0 where
  pub within : i ≤ stated_segments xs
  pub rows : i < stated_segments xs → skip ≤ count_at xs i
  pub whole : walk_of (names_of xs g) k room ≡ written ++ walk_of (names_of xs g) (rows_before xs i + skip) (room - length written)

module _ {xs : List ℕ} {span : ℕ} (d : Directory xs span (stated_segments xs)) {g : ℕ → List ℕ} (s : Named xs g) where
  -- from a place inside segment i: its own rest, then the pieces from i + 1 on
  pub names_rest : (i j : ℕ) → i < stated_segments xs → j ≤ count_at xs i
      → drop (rows_before xs i + j) (names_of xs g) ≡ shift (start_at xs i) (drop j (g i)) ++ flat (λ (m : ℕ). piece_of xs g (suc i + m)) (stated_segments xs - suc i)
  unfolding names_of piece_of
  names_rest i j l h =
      let rest = flat (λ (m : ℕ). piece_of xs g (suc i + m)) (stated_segments xs - suc i) in
      let w : j ≤ length (piece_of xs g i) = rw (piece_length d s i l) h in
      rw (flat_split (piece_of xs g) (stated_segments xs) i l, ← front_length d s i (omega arith))
      (drop-append-add (flat (piece_of xs g) i) (piece_of xs g i ++ rest) j ∙ drop-append-le j (piece_of xs g i) rest w ∙ ap (λ (ys : List ℕ). ys ++ rest) (sym (shift-drop (start_at xs i) j (g i))))

  -- the same, and what follows is what is left after segment i
  pub names_step : (i j : ℕ) → i < stated_segments xs → j ≤ count_at xs i
      → drop (rows_before xs i + j) (names_of xs g) ≡ shift (start_at xs i) (drop j (g i)) ++ drop (rows_before xs (suc i)) (names_of xs g)
  unfolding total shift
  names_step i j l h =
      let rest = flat (λ (m : ℕ). piece_of xs g (suc i + m)) (stated_segments xs - suc i) in
      let z : drop (count_at xs i) (g i) ≡ [] = drop_of_length-le (g i) {i = count_at xs i} (omega (arith, s.sized i l)) in
      let after : drop (rows_before xs i + count_at xs i) (names_of xs g) ≡ rest = names_rest i (count_at xs i) l (omega arith) ∙ rw z in
      names_rest i j l h ∙ rw after

  -- ---- the loop over the segments

  -- segment i writes as many as fit or remain, counted from its start in 32 bits
  pub walking_next : {k room i skip : ℕ} {written part : List ℕ} → span ≤ 4294967295 → Walking xs g k room i skip written → i < stated_segments xs
      → part ≡ moved (start_at xs i) (walk_of (g i) skip (room - length written)) → Walking xs g k room (suc i) 0 (written ++ part)
  walking_next {k} {room} {i} {skip} {written} {part} b w l q =
      let left = room - length written in
      let piece = shift (start_at xs i) (drop skip (g i)) in
      let rest = drop (rows_before xs (suc i)) (names_of xs g) in
      let here : take left piece ≡ part = rw (shift-drop (start_at xs i) skip (g i)) (sym (q ∙ moved_walk (start_at xs i) (omega (arith, (d.fit i l).within)) (s.rising i l) skip left)) in
      let size : left - length piece ≡ room - length (written ++ part) = rw (← here, length-append, length-take) (omega arith) in
      record {
        within = l;
        rows = λ m. omega arith;
        whole = w.whole ∙ rw (names_step i skip l (w.rows l), take-append left piece rest, here, size, add-zero (rows_before xs (suc i))) (sym (append_assoc written part _));
      }

  -- past the last segment, or where no room is left
  pub walking_end : {k room i skip : ℕ} {written : List ℕ} → Walking xs g k room i skip written → stated_segments xs ≤ i → walk_of (names_of xs g) k room ≡ written
  walking_end {k} {room} {i} {skip} {written} w h =
      let e : i ≡ stated_segments xs = omega (arith, w.within) in
      let past : length (names_of xs g) ≤ rows_before xs i + skip = rw e (omega (arith, names-length d s, d.sum)) in
      w.whole ∙ rw (drop_of_length-le (names_of xs g) past, take-nil) (append-nil written)

  pub walking_full : {k room i skip : ℕ} {written : List ℕ} → Walking xs g k room i skip written → room ≤ length written → walk_of (names_of xs g) k room ≡ written
  walking_full {k} {room} {i} {skip} {written} w h =
      let z : room - length written ≡ 0 = omega arith in
      rw z at w.whole ∙ append-nil written
