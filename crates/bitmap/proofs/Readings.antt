-- What the readers compute, by the word at hand: place, and where an ordinal stands.
-- Assumes nothing.
use Rattle.std.proofs.Common.{◌≡◌, ℕ, suc, ◌+◌, ◌-◌, ◌*◌, ◌/◌, ◌%◌, ◌^◌, ◌<◌, ◌≤◌, Bool, true, false, List, length, sym, refl, ◌∙◌, arith, shr-shr, le-ltb, lt-ltb}
use Rattle.fields.specs.Le.{Bytes, le}
use Rattle.model.proofs.Tests.{pick_true, pick_false}
use Rattle.model.specs.Lists.{has}
use Rattle.model.specs.Answers.{rank_or_none, lies_in, rank_in}
use Rattle.model.specs.Tests.{pick}
use Rattle.model.proofs.Ranking.{lies_below, rank_in_lem}
use Rattle.word.specs.Bits.{bits_from, bits_of}
use Rattle.word.proofs.Places.{has_bits, digit_mod}
use Rattle.bitmap.specs.Body.{words_of, number, word_of, stated, before, bitmap_names}
use Rattle.bitmap.specs.Reading.{bitmap_below, bitmap_place, Between}
use Rattle.bitmap.proofs.Words.{word, before_in}
use Rattle.bitmap.proofs.Groups.{stated_at}

-- ---- place

module _ (xs : List ℕ) (s n p : ℕ) where
  pub place_outside : s ≤ p → record { below = n; present = false } ≡ bitmap_place xs s n p
  unfolding bitmap_place
  place_outside h = sym (pick_false _ _ (le-ltb p s h))

  pub place_inside : {b : ℕ} {t : Bool} → p < s → b ≡ bitmap_below xs s p → t ≡ has (bitmap_names xs s) p → record { below = b; present = t } ≡ bitmap_place xs s n p
  unfolding bitmap_place
  place_inside h eb et = rw (eb, et) (sym (pick_true _ _ (lt-ltb p s h)))

-- ---- rank: rows are counted for a row alone

module _ (xs : List ℕ) (s n base p : ℕ) (t : lies_in base s p ≡ true) where
  pub rank_row : {b : ℕ} → has (bitmap_names xs s) (p - base) ≡ true → b ≡ bitmap_below xs s (p - base) → b ≡ rank_in (bitmap_place xs s n) base s p
  unfolding rank_or_none pick
  rank_row r e = rank_in_lem (bitmap_place xs s n) base s p t (place_inside xs s n (p - base) (lies_below base s p t) e (sym r)) refl

  pub rank_absent : has (bitmap_names xs s) (p - base) ≡ false → 4294967295 ≡ rank_in (bitmap_place xs s n) base s p
  unfolding rank_or_none pick
  rank_absent r = rank_in_lem (bitmap_place xs s n) base s p t (place_inside xs s n (p - base) (lies_below base s p t) refl (sym r)) refl

-- ---- both by the words

-- the digit of a position is that of its word
digit_at : (xs : List ℕ) → Bytes xs → {w : ℕ} (s p : ℕ) → p < s → w ≡ word_of xs s (p / 64) → number xs s / 2 ^ p % 2 ≡ w / 2 ^ (p % 64) % 2
digit_at xs bytes {w} s p h ew =
    let i = p / 64 in
    let k = p % 64 in
    let e : 64 * i + k ≡ p = omega arith in
    let f : (63 - k) + suc k ≡ 64 = omega arith in
    let d : number xs s / 2 ^ (64 * i) / 2 ^ k % 2 ≡ w / 2 ^ k % 2 = sym (digit_mod (63 - k) k (number xs s / 2 ^ (64 * i))) ∙ rw (f, word xs bytes s i (omega arith), ew) in
    rw (shr-shr (number xs s) (64 * i) k, e) at d

pub row_at : (xs : List ℕ) → Bytes xs → {w : ℕ} {t : Bool} (s p : ℕ) → p < s → w ≡ word_of xs s (p / 64) → t ≡ has (bits_of w) (p % 64) → t ≡ has (bitmap_names xs s) p
row_at xs bytes {w} s p h ew et =
    et ∙ has_bits 64 (p % 64) w (omega arith) ∙ rw (← digit_at xs bytes s p h ew) (sym (has_bits (64 * words_of s) p (number xs s) (omega arith)))

pub below_at : (xs : List ℕ) → Bytes xs → {w st m r : ℕ} (s p : ℕ) → p < s → st ≡ le 2 xs (2 * (p / 64 / 4)) → Between xs s (4 * (p / 64 / 4)) (p / 64) m → w ≡ word_of xs s (p / 64) → r ≡ length (bits_from (p % 64) 0 w)
    → st + (m + r) ≡ bitmap_below xs s p
below_at xs bytes {w} {st} {m} {r} s p h est b ew er =
    let e : 64 * (p / 64) + p % 64 ≡ p = omega arith in
    let q : p / 64 / 4 ≡ p / 256 = omega arith in
    let f : 64 * (4 * (p / 256)) ≡ 256 * (p / 256) = omega arith in
    let sum : before xs s (256 * (p / 256)) + m ≡ before xs s (64 * (p / 64)) = rw (q, f) at b.sum in
    let ins : before xs s p ≡ before xs s (64 * (p / 64)) + r = rw (er, ew, ← before_in xs bytes s (p / 64) (p % 64) (omega arith) (omega arith), e) in
    let est' : st ≡ stated xs (p / 256) = est ∙ rw q (stated_at xs (p / 256)) in
    omega arith
