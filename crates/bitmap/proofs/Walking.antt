-- The rows that are left in the middle of a walk, and what is written of them.
-- Assumes nothing.
use Rattle.std.proofs.Common.{◌≡◌, ℕ, ◌+◌, ◌-◌, ◌*◌, ◌%◌, ◌<◌, ◌≤◌, List, [], ◌∷◌, ◌++◌, length, get_or, take, drop, set, sym, ◌∙◌, add-zero, zero-add, arith, length-drop, get_or-drop}
use lib.ListN.{get_or-append}
use lib.Seq.{take-nil, drop-append-le}
use Rattle.fields.specs.Le.{Bytes}
use Rattle.model.specs.Lists.{shift, moved}
use Rattle.model.specs.Answers.{Walked}
use Rattle.model.proofs.Append.{length_shift, get_or-shift, shift-drop}
use Rattle.model.proofs.Taking.{drop_past}
use Rattle.model.proofs.Writing.{Filled, filled_start, filled_more, filled_end, walks_none}
use Rattle.word.specs.Bits.{bits_from, bits_of}
use Rattle.word.proofs.Bits.{bits_zero, bits_moved}
use Rattle.bitmap.specs.Body.{words_of, word_of}
use Rattle.bitmap.specs.Reading.{from, bitmap_rest, bitmap_select, bitmap_walk, rest_of, Standing, Left}
use Rattle.bitmap.specs.declared.Spot.{Spot}
use Rattle.bitmap.specs.declared.Cursor.{Cursor}
use Rattle.bitmap.proofs.Words.{from_word}

-- ---- a word that is used up: the rows from the next one on are those that were left

module _ (xs : List ℕ) (s i₀ w₀ : ℕ) where
  -- word i is used up
  pub used_up : (i w : ℕ) → w ≡ 0 → rest_of xs s i w ≡ rest_of xs s i₀ w₀ → from xs s (64 * (i + 1)) ≡ rest_of xs s i₀ w₀
  used_up i w z e = rw (z, bits_zero 64 (64 * i)) at e

  module _ (i : ℕ) (e : from xs s (64 * i) ≡ rest_of xs s i₀ w₀) where
    pub word_left : Bytes xs → (w : ℕ) → i < words_of s → w ≡ word_of xs s i → rest_of xs s i w ≡ rest_of xs s i₀ w₀
    word_left bytes w h q = rw q (sym (from_word xs bytes s i h) ∙ e)

    -- no word is left
    pub none_left : words_of s ≤ i → rest_of xs s i₀ w₀ ≡ []
    unfolding bits_from
    none_left h =
        let z : 64 * words_of s - 64 * i ≡ 0 = omega arith in
        sym e ∙ rw z

-- ---- the first row of a word that is not

rest_first : (xs : List ℕ) (s i v place rest : ℕ) → bits_of v ≡ place ∷ bits_of rest → rest_of xs s i v ≡ (64 * i + place) ∷ rest_of xs s i rest
unfolding shift
rest_first xs s i v place rest e = rw (bits_moved 64 (64 * i) v, e, bits_moved 64 (64 * i) rest)

-- ---- the spot of an ordinal

module _ (xs : List ℕ) (bytes : Bytes xs) (s k : ℕ) (spot : Spot) (found : Standing xs s k spot) where
  abbrev row : ℕ
  row = word_of xs s spot.index

  -- the rows of the word, counted as positions
  row_length : length (bits_from 64 (64 * spot.index) row) ≡ length (bits_of row)
  row_length = rw (bits_moved 64 (64 * spot.index) row) (length_shift (64 * spot.index) (bits_of row))

  spot_rest : bitmap_rest xs s k ≡ drop spot.left (bits_from 64 (64 * spot.index) row) ++ from xs s (64 * (spot.index + 1))
  spot_rest =
      found.rest ∙ rw (from_word xs bytes s spot.index found.inside)
      (drop-append-le spot.left (bits_from 64 (64 * spot.index) row) (from xs s (64 * (spot.index + 1))) (omega (arith, found.row, row_length)))

  pub spot_select : (w r : ℕ) → w ≡ row → r ≡ get_or (bits_of w) spot.left 0 → 64 * spot.index + r ≡ bitmap_select xs s k
  spot_select w r ew er =
      let l : 0 < length (drop spot.left (bits_from 64 (64 * spot.index) row)) = rw length-drop (omega (arith, found.row, row_length)) in
      sym (rw spot_rest (get_or-append (drop spot.left (bits_from 64 (64 * spot.index) row)) (from xs s (64 * (spot.index + 1))) 0 0 l
      ∙ get_or-drop spot.left (bits_from 64 (64 * spot.index) row) 0 0
      ∙ rw (add-zero, bits_moved) (get_or-shift (64 * spot.index) (bits_of row) spot.left found.row ∙ rw (er, ew))))

  pub spot_walk : (w v : ℕ) → w ≡ row → bits_of v ≡ drop spot.left (bits_of w) → rest_of xs s spot.index v ≡ bitmap_rest xs s k
  spot_walk w v ew ev =
      sym (spot_rest ∙ rw (bits_moved 64 (64 * spot.index) row, bits_moved 64 (64 * spot.index) v, ev, ew, shift-drop))

pub no_walk : (xs : List ℕ) (s k base : ℕ) (old : List ℕ) → bitmap_rest xs s k ≡ [] → Walked (bitmap_walk xs s k base (length old)) old old 0
unfolding moved
no_walk xs s k base old e = walks_none old (rw (e, take-nil))

-- ---- writing

-- n of the rows are written, and the others are those from word i on, of which `word` is left
pub record Filling (xs : List ℕ) (s : ℕ) (rows : List ℕ) (base : ℕ) (old new : List ℕ) (n i word : ℕ) : Type 0 where
  pub inside : i < words_of s
  pub filled : Filled base 0 rows old new n
  pub rest : rest_of xs s i word ≡ drop n rows

module _ (xs : List ℕ) (s : ℕ) (rows : List ℕ) (base : ℕ) (old : List ℕ) where
  pub filling_start : (i word : ℕ) → i < words_of s → rest_of xs s i word ≡ rows → Filling xs s rows base old old 0 i word
  filling_start i word h e = record { inside = h; filled = filled_start base 0 rows old (omega arith); rest = e }

  -- all that there are
  pub filling_out : (new : List ℕ) (n i word : ℕ) → Filling xs s rows base old new n i word → rest_of xs s i word ≡ [] → Walked (moved base (take (length old) rows)) old new n
  filling_out new n i word f e = filled_end f.filled (sym f.rest ∙ e)

  -- one more
  pub filling_next : (new : List ℕ) (n i word place left : ℕ) {at : Cursor} → Filling xs s rows base old new n i word → n < length old → Left xs s i word at → bits_of at.word ≡ place ∷ bits_of left
      → Filling xs s rows base old (set new n ((base + (64 * at.index + place)) % 4294967296)) (n + 1) at.index left
  unfolding moved
  filling_next new n i word place left {at} f h c e =
      let x = 64 * at.index + place in
      let t = rest_of xs s at.index left in
      let d : drop n rows ≡ x ∷ t = sym f.rest ∙ sym c.same ∙ rest_first xs s at.index at.word place left e in
      record {
        inside = c.inside;
        filled = rw zero-add at (filled_more f.filled (x ∷ []) t d (omega arith));
        rest = sym (drop_past rows (x ∷ []) t n d);
      }
