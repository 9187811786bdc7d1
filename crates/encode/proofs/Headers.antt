-- Headers and entries are fields, one after the other.
-- Assumes nothing.
use mathlib.Core.Path.{◌≡◌, refl, sym, ◌∙◌}
use mathlib.Core.List.{List, [], ◌++◌}
use Prim.Native.Nat.{ℕ, ◌+◌, ◌/◌, ◌%◌, ◌^◌, ◌<◌, ◌≤◌}
use native.Mathlib.Nat.{add-zero, mod-eq_of_lt}
use native.Mathlib.Omega.{arith}
use lib.Dec.{ltb}
use lib.ListN.{length, length-append}
use borrow.Author.Tests.{lt-ltb, le-ltb}
use Rattle.fields.specs.Le.{digits, put}
use Rattle.fields.proofs.Laws.{digits_split, length_digits}
use Rattle.model.specs.Tests.{pick}
use Rattle.model.proofs.Tests.{pick_true, pick_false}
use Rattle.directory.specs.declared.Segment.{Segment}
use Rattle.emit.specs.Written.{Written}
use Rattle.emit.proofs.Emitting.{written_more, written-put}
use Rattle.emit.proofs.Pieces.{put_low}
use Rattle.encode.specs.Headers.{plain_header, bitmap_header, missing_header, entry_bytes}

-- nothing written
pub written_none : (at : ℕ) (xs : List ℕ) {vs : List ℕ} → vs ≡ [] → Written vs at xs xs at
written_none at xs e = rw e (record { stands = refl; behind = sym (add-zero at) })

-- ---- the plain header

pub header_low : (tag n runs : ℕ) → tag < 4 → plain_header tag n runs ≡ []
unfolding plain_header
header_low tag n runs h = pick_true _ _ (lt-ltb tag 4 h)

pub header_high : (tag n runs : ℕ) → 7 < tag → plain_header tag n runs ≡ []
unfolding plain_header
header_high tag n runs h = pick_false _ _ (le-ltb tag 4 (omega arith)) ∙ pick_true _ _ (lt-ltb 7 tag h)

pub header_fields : (tag n runs : ℕ) → 4 ≤ tag → tag ≤ 7 → plain_header tag n runs ≡ digits 2 n ++ digits 2 (pick (ltb tag 6) runs 0)
unfolding plain_header
header_fields tag n runs l h = pick_false _ _ (le-ltb tag 4 l) ∙ pick_false _ _ (le-ltb 7 tag h)

pub header_size : (tag n runs : ℕ) → 4 ≤ tag → tag ≤ 7 → length (plain_header tag n runs) ≡ 4
header_size tag n runs l h = rw (header_fields tag n runs l h) (simp (length-append, length_digits))

pub header_written : (tag n runs at : ℕ) {v : ℕ} {xs ys zs : List ℕ} → 4 ≤ tag → tag ≤ 7 → v ≡ pick (ltb tag 6) runs 0 → ys ≡ put 2 xs at n → zs ≡ put 2 ys (at + 2) v → Written (plain_header tag n runs) at xs zs (at + 4)
header_written tag n runs at {v} l h e d f =
    rw (header_fields tag n runs l h, ← e) (written_more (written-put 2 n at d refl) (written-put 2 v (at + 2) f (omega arith)))

-- ---- the trimmed headers

pub bitmap_written : (first extent n at : ℕ) {a b c d e : List ℕ} → b ≡ put 2 a at n → c ≡ put 2 b (at + 2) 1 → d ≡ put 4 c (at + 4) first → e ≡ put 4 d (at + 8) extent → Written (bitmap_header first extent n) at a e (at + 12)
unfolding bitmap_header
bitmap_written first extent n at p q r s =
    written_more (written_more (written_more (written-put 2 n at p refl) (written-put 2 1 (at + 2) q (omega arith))) (written-put 4 first (at + 4) r (omega arith))) (written-put 4 extent (at + 8) s (omega arith))

pub missing_written : (first extent n at : ℕ) {a b c d : List ℕ} → b ≡ put 4 a at first → c ≡ put 2 b (at + 4) (extent % 65536) → d ≡ put 2 c (at + 6) n → Written (missing_header first extent n) at a d (at + 8)
unfolding missing_header
missing_written first extent n at p q r =
    written_more (written_more (written-put 4 first at p refl) (written-put 2 extent (at + 4) (q ∙ put_low 2 _ (at + 4) extent) (omega arith))) (written-put 2 n (at + 6) r (omega arith))

pub length-bitmap_header : (first extent n : ℕ) → length (bitmap_header first extent n) ≡ 12
unfolding bitmap_header
length-bitmap_header first extent n = simp (length-append, length_digits)

pub length-missing_header : (first extent n : ℕ) → length (missing_header first extent n) ≡ 8
unfolding missing_header
length-missing_header first extent n = simp (length-append, length_digits)

-- ---- an entry

pub tag_field : (tag : ℕ) → tag < 256 → digits 2 tag ≡ digits 1 tag ++ digits 1 0
tag_field tag h =
    let l : tag % 256 ^ 1 ≡ tag = mod-eq_of_lt h in
    let z : tag / 256 ^ 1 ≡ 0 = omega arith in
    digits_split 1 1 tag ∙ rw (l, z)

pub entry-written : (e : Segment) (at : ℕ) {a b c d f g h i : List ℕ} → b ≡ put 4 a at e.start → c ≡ put 2 b (at + 4) e.span → d ≡ put 2 c (at + 6) e.count → f ≡ put 2 d (at + 8) e.ordinal
    → g ≡ put 2 f (at + 10) e.offset → h ≡ put 2 g (at + 12) e.length → i ≡ put 2 h (at + 14) e.tag
    → Written (entry_bytes e) at a i (at + 16)
unfolding entry_bytes
entry-written e at p q r s t u v =
    written_more (written-put 4 e.start at p refl)
    (written_more (written-put 2 e.span (at + 4) q (omega arith))
    (written_more (written-put 2 e.count (at + 6) r (omega arith))
    (written_more (written-put 2 e.ordinal (at + 8) s (omega arith))
    (written_more (written-put 2 e.offset (at + 10) t (omega arith))
    (written_more (written-put 2 e.length (at + 12) u (omega arith)) (written-put 2 e.tag (at + 14) v (omega arith)))))))
