-- Reading the entries of a directory, and what a flag loop over them keeps.
-- Assumes nothing.
use mathlib.Core.Path.{◌≡◌, refl, sym, ap}
use mathlib.Core.Bool.{Bool, true, false, ◌&&◌}
use mathlib.Core.List.{List}
use Prim.Native.Nat.{ℕ, ◌+◌, ◌*◌, ◌<◌, ◌≤◌}
use native.Mathlib.Nat.{add-zero}
use native.Mathlib.Numerals.{add-one}
use native.Mathlib.Omega.{arith}
use lib.Dec.{leb, eqb}
use lib.ListN.{length, get_or}
use borrow.Author.Tests.{le-leb}
use Rattle.fields.specs.Le.{le}
use Rattle.model.specs.Tests.{both, all, total}
use Rattle.model.specs.Lists.{counted}
use Rattle.model.proofs.Counted.{and_both, both_yes}
use Rattle.search.specs.Search.{entry}
use Rattle.directory.specs.Directory.{stated_count, start_at, span_at, count_at, length_at, zero_at, entry_of, rows_before, bytes_before, directory_size, end_before, is_local, fits, segment_fits, segments_fit}
use Rattle.directory.specs.declared.Segment.{Segment}

-- ---- one entry

-- a field of one byte is the byte
pub byte_is : (xs : List ℕ) (base i : ℕ) → get_or xs (base + i * 16) 0 ≡ entry 1 xs base 16 i
unfolding entry le
byte_is xs base i = sym (add-zero _)

pub entry_is : (xs : List ℕ) (i : ℕ) {start span count ordinal offset size : ℕ} → start ≡ le 4 xs (4 + i * 16) → span ≡ le 2 xs (8 + i * 16) → count ≡ le 2 xs (10 + i * 16)
    → ordinal ≡ le 2 xs (12 + i * 16) → offset ≡ le 2 xs (14 + i * 16) → size ≡ le 2 xs (16 + i * 16)
    → ◌≡◌ {A = Segment} (record { start = start; span = span; count = count; ordinal = ordinal; offset = offset; length = size; tag = get_or xs (18 + i * 16) 0 }) (entry_of xs i)
unfolding entry_of entry
entry_is xs i a b c d e f = rw (a, b, c, d, e, f, byte_is)

-- ---- the code's flags

pub counted_is : (span n : ℕ) → n ≤ 65535 → (leb 1 n && leb n span) ≡ counted span n
unfolding counted
counted_is span n h = rw (le-leb n 65535 h) (simp (and_both, both_yes))

both_more : (a b c : Bool) → both (both a b) c ≡ both a (both b c)
unfolding both
both_more true b c = refl
both_more false b c = refl

pub fits_is : (e : Segment) (nought free rows at span : ℕ) {some local : Bool} → some ≡ counted e.span e.count → local ≡ is_local e.tag
    → (((leb free e.start && leb (e.start + e.span) span) && ((some && local) && eqb nought 0)) && (eqb e.ordinal rows && eqb e.offset at)) ≡ fits e nought free rows at span
unfolding fits
fits_is e nought free rows at span s l = rw (s, l) (simp (and_both, both_more))

-- ---- the loop over the entries: the flag, where the segment before ends, the rows so far, and where the next payload lies
pub record Standing (xs : List ℕ) (span n i : ℕ) (ok : Bool) (free rows at : ℕ) : Type 0 where
  pub within : i ≤ n
  pub flag : ok ≡ all (segment_fits xs span n) i
  pub end : free ≡ end_before xs i
  pub sum : rows ≡ rows_before xs i
  pub payload : at ≡ directory_size n + bytes_before xs i
  pub few : rows ≤ i * 65535
  pub short : at ≤ directory_size n + i * 65535

pub standing_start : (xs : List ℕ) (span n : ℕ) → Standing xs span n 0 true 0 0 (directory_size n)
unfolding all end_before total
standing_start xs span n = record { within = omega arith; flag = refl; end = refl; sum = refl; payload = omega arith; few = omega arith; short = omega arith }

pub standing_next : (xs : List ℕ) (span n : ℕ) {i free rows at z : ℕ} {ok f : Bool} {e : Segment} → Standing xs span n i ok free rows at → i < n → e ≡ entry_of xs i → z ≡ zero_at xs i
    → e.count < 65536 → e.length < 65536 → f ≡ fits e z free rows at span → Standing xs span n (i + 1) (ok && f) (e.start + e.span) (rows + e.count) (at + e.length)
unfolding all end_before total segment_fits entry_of
standing_next xs span n {i} {free} {rows} {at} {z} {ok} {f} {e} s l q u b d t =
    let start : e.start ≡ start_at xs i = ap (λ (x : Segment). x.start) q in
    let size : e.span ≡ span_at xs i = ap (λ (x : Segment). x.span) q in
    let count : e.count ≡ count_at xs i = ap (λ (x : Segment). x.count) q in
    let bytes : e.length ≡ length_at xs i = ap (λ (x : Segment). x.length) q in
    record {
      within = omega arith;
      flag = rw (add-one i, and_both, t, s.flag, q, u, s.end, s.sum, s.payload);
      end = rw (add-one i, start, size);
      sum = rw (add-one i, count, s.sum);
      payload = rw (add-one i, bytes) (omega (arith, s.payload));
      few = omega (arith, s.few);
      short = omega (arith, s.short);
    }

pub standing_end : (xs : List ℕ) (span n : ℕ) {i free rows at count : ℕ} {ok : Bool} → Standing xs span n i ok free rows at → n ≤ i → count ≡ stated_count xs
    → ((ok && eqb rows count) && eqb at (length xs)) ≡ segments_fit xs span n
unfolding segments_fit
standing_end xs span n {i} s g c =
    let e : i ≡ n = omega (arith, s.within) in
    simp (and_both, both_more) (rw (s.flag, s.sum, s.payload, c, e))
