-- What the code has in hand of a segment: its entry, and the part of the body that the entry names.
-- Assumes nothing.
use Rattle.std.proofs.Common.{◌≡◌, ℕ, ◌+◌, ◌-◌, ◌<◌, ◌≤◌, Bool, true, false, List, length, sym, ◌∙◌, arith}
use Rattle.model.specs.Tests.{all}
use Rattle.model.proofs.Tests.{both_first}
use Rattle.model.proofs.Counted.{both_pass}
use Rattle.directory.specs.Directory.{stated_segments, start_at, offset_at, length_at, entry_of, part_of, directory_accepts}
use Rattle.directory.specs.declared.Segment.{Segment}
use Rattle.directory.proofs.Parts.{accepts_directory}
use Rattle.directory.proofs.Facts.{payload_inside, Holds}
use Rattle.forms.specs.Forms.{local_accepts}
use Rattle.segmented.specs.Segmented.{part_accepts, segmented_accepts, part_by}

pub cut_part : {e : Segment} (xs : List ℕ) (i : ℕ) → e ≡ entry_of xs i → part_by e xs ≡ part_of xs i
unfolding entry_of part_of
cut_part xs i q =
    let s : offset_at xs i + length_at xs i - offset_at xs i ≡ length_at xs i = omega arith in
    rw (q, s)

module _ (xs : List ℕ) (span i : ℕ) (ok : directory_accepts xs span ≡ true) (h : i < stated_segments xs) where
  pub part_inside : {e : Segment} → e ≡ entry_of xs i → e.offset + e.length ≤ length xs
  unfolding entry_of
  part_inside q = rw q (payload_inside (accepts_directory xs span ok) i h)

pub part_checked : {e : Segment} {r : Bool} (xs : List ℕ) (i : ℕ) → e ≡ entry_of xs i → r ≡ local_accepts e.tag (part_by e xs) e.span e.count → r ≡ part_accepts xs i
unfolding part_accepts entry_of
part_checked {e} xs i q c = c ∙ rw (cut_part xs i q, q)

-- ---- every part

module _ (span : ℕ) (xs : List ℕ) where
  pub directory_fails : directory_accepts xs span ≡ false → false ≡ segmented_accepts span xs
  unfolding segmented_accepts
  directory_fails e = sym (both_first _ _ e)

  pub parts_decide : {r : Bool} → directory_accepts xs span ≡ true → r ≡ all (part_accepts xs) (stated_segments xs) → r ≡ segmented_accepts span xs
  unfolding segmented_accepts
  parts_decide d e = both_pass d e

-- ---- an entry that was read, and what is known of its segment

pub entry_start : {e : Segment} {p : ℕ} (xs : List ℕ) (i : ℕ) → e ≡ entry_of xs i → start_at xs i ≤ p → e.start ≤ p
unfolding entry_of
entry_start xs i q h = rw q h

pub entry-holds : {e : Segment} {n k : ℕ} (xs : List ℕ) (i : ℕ) → e ≡ entry_of xs i → Holds xs n k i → (e.ordinal ≤ k) × (k < e.ordinal + e.count)
unfolding entry_of
entry-holds xs i q h = rw q (h.from, omega (arith, h.from, h.within))
