-- The words of a bitmap and the number that they make: rows counted word by word, and the rows from a place on.
-- Assumes nothing.
use Rattle.std.proofs.Common.{◌≡◌, ℕ, ◌+◌, ◌-◌, ◌*◌, ◌/◌, ◌%◌, ◌^◌, ◌<◌, ◌≤◌, min, List, ◌++◌, length, sym, ap, ◌∙◌, ⊎_elim, zero-add, arith, length-append, shr-shr}
use Rattle.fields.specs.Le.{Bytes}
use Rattle.fields.proofs.Binary.{le_lt, le_high, le_low}
use Rattle.model.proofs.Tests.{order}
use Rattle.word.specs.Bits.{bits_from, bits_of}
use Rattle.word.proofs.Bits.{bits_cat, bits_cut, bits_mod, bits_count, bits_short, bits_most}
use Rattle.bitmap.specs.Body.{words_of, groups_of, number, word_of, before, bitmap_names}
use Rattle.bitmap.specs.Reading.{from, rest_of, Between}

-- ---- on any list of numbers

module _ (xs : List ℕ) (s : ℕ) where
  pub before_most : (p : ℕ) → before xs s p ≤ p
  before_most p = bits_most p 0 (number xs s)

  -- the rows from p up to q
  pub between : (p q : ℕ) → p ≤ q → before xs s p + length (bits_from (q - p) p (number xs s / 2 ^ p)) ≡ before xs s q
  between p q h =
      let e : q ≡ p + (q - p) = omega arith in
      sym (ap (before xs s) e ∙ rw (bits_cat p (q - p) 0 (number xs s), length-append, zero-add))

  pub before_mono : (p q : ℕ) → p ≤ q → before xs s p ≤ before xs s q
  before_mono p q h = omega (arith, between p q h)

  -- the rows at p or after: those below q, and those at q or after
  pub from_cut : (p q : ℕ) → p ≤ q → q ≤ 64 * words_of s → from xs s p ≡ bits_from (q - p) p (number xs s / 2 ^ p) ++ from xs s q
  from_cut p q h l =
      let le : q - p ≤ 64 * words_of s - p = omega arith in
      let e : p + (q - p) ≡ q = omega arith in
      let f : 64 * words_of s - p - (q - p) ≡ 64 * words_of s - q = omega arith in
      bits_cut (64 * words_of s - p) (q - p) p (number xs s / 2 ^ p) le ∙ rw (shr-shr (number xs s) p (q - p), e, f)

  pub names_cut : (p : ℕ) → p ≤ 64 * words_of s → bitmap_names xs s ≡ bits_from p 0 (number xs s) ++ from xs s p
  names_cut p h = bits_cut (64 * words_of s) p 0 (number xs s) h ∙ rw (zero-add p)

  -- nothing is counted yet
  pub between_none : (i : ℕ) → Between xs s i i 0
  between_none i = record { sum = omega arith; most = omega arith }

-- ---- where each is a byte

module _ (xs : List ℕ) (bytes : Bytes xs) (s : ℕ) where
  pub number_lt : number xs s < 2 ^ (64 * words_of s)
  number_lt =
      let e : 64 * words_of s ≡ 8 * (8 * words_of s) = omega arith in
      rw e (le_lt xs bytes (8 * words_of s) (2 * groups_of s))

  pub word : (i : ℕ) → i < words_of s → number xs s / 2 ^ (64 * i) % 2 ^ 64 ≡ word_of xs s i
  word i h =
      let e : 64 * i ≡ 8 * (8 * i) = omega arith in
      let h8 : 8 * i ≤ 8 * words_of s = omega arith in
      rw (e, le_high xs bytes (8 * words_of s) (8 * i) (2 * groups_of s) h8) (le_low xs bytes (8 * words_of s - 8 * i) 8 (2 * groups_of s + 8 * i) (omega arith))

  pub word_bits : (i k p : ℕ) → i < words_of s → k ≤ 64 → bits_from k p (number xs s / 2 ^ (64 * i)) ≡ bits_from k p (word_of xs s i)
  word_bits i k p h l =
      let e : (64 - k) + k ≡ 64 = omega arith in
      sym (bits_mod (64 - k) k p (number xs s / 2 ^ (64 * i))) ∙ rw (e, word i h)

  -- the rows below a place of word i: those before the word, and those of the word below the place
  pub before_in : (i k : ℕ) → i < words_of s → k ≤ 64 → before xs s (64 * i + k) ≡ before xs s (64 * i) + length (bits_from k 0 (word_of xs s i))
  before_in i k h l =
      rw (bits_cat (64 * i) k 0 (number xs s), length-append, word_bits i k (0 + 64 * i) h l, bits_count k (0 + 64 * i) 0)

  pub before_word : (i : ℕ) → i < words_of s → before xs s (64 * (i + 1)) ≡ before xs s (64 * i) + length (bits_of (word_of xs s i))
  before_word i h =
      let e : 64 * (i + 1) ≡ 64 * i + 64 = omega arith in
      rw e (before_in i 64 h (omega arith))

  -- one more word is counted
  pub between_next : (i at n m : ℕ) → i ≤ at → at < words_of s → m ≡ length (bits_of (word_of xs s at)) → m ≤ 64 → Between xs s i at n → Between xs s i (at + 1) (n + m)
  between_next i at n m h l e k b =
      record { sum = omega (arith, b.sum, before_word at l); most = omega (arith, b.most) }

  -- no row is past the words
  pub before_past : (p : ℕ) → 64 * words_of s ≤ p → before xs s p ≡ length (bitmap_names xs s)
  before_past p h = ap length (bits_short p (64 * words_of s) 0 (number xs s) h number_lt)

  -- the rows before the end of group g, which may be cut short by the last word
  pub before_group : (g : ℕ) → before xs s (64 * min (4 * g + 4) (words_of s)) ≡ before xs s (256 * (g + 1))
  before_group g =
      ⊎_elim
      (λ (l : words_of s < 4 * g + 4).
      let e : min (4 * g + 4) (words_of s) ≡ words_of s = omega arith in
      rw e (sym (before_past (256 * (g + 1)) (omega arith))))
      (λ (l : 4 * g + 4 ≤ words_of s).
      let e : 64 * min (4 * g + 4) (words_of s) ≡ 256 * (g + 1) = omega arith in
      rw e)
      (order (words_of s) (4 * g + 4))

  -- the rows from word i on: its own, and those after it
  pub from_word : (i : ℕ) → i < words_of s → from xs s (64 * i) ≡ rest_of xs s i (word_of xs s i)
  from_word i h =
      let e : 64 * (i + 1) - 64 * i ≡ 64 = omega arith in
      from_cut xs s (64 * i) (64 * (i + 1)) (omega arith) (omega arith) ∙ rw (e, word_bits i 64 (64 * i) h (omega arith))
