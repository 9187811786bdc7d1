-- Rows to bytes and back: the layout of a list is accepted and names it, and an accepted body is the layout of what it names.
-- Assumes nothing.
use Rattle.std.proofs.Common.{◌≡◌, ℕ, ◌+◌, ◌*◌, ◌^◌, ◌<◌, ◌≤◌, true, List, length, take, drop, sym, ap, ◌∙◌, add-zero, mod-eq_of_lt, zero-add, arith, length-append, length-drop, take-append-drop, take_all}
use Rattle.fields.specs.Le.{Bytes, le, digits}
use Rattle.fields.proofs.Laws.{length_digits, le-digits, digits_le}
use Rattle.fields.proofs.Binary.{pow_bytes}
use Rattle.fields.proofs.Tables.{le_first, le_second, table, table_length, table_at, pieces}
use Rattle.model.specs.Tests.{flat}
use Rattle.model.specs.Lists.{Rising, below}
use Rattle.model.proofs.Tests.{flat-same}
use Rattle.model.proofs.Rising.{rising_wider, rising_room}
use Rattle.model.proofs.Standing.{below_most}
use Rattle.word.specs.Bits.{bits_from, num_from}
use Rattle.word.proofs.Places.{below_bits}
use Rattle.word.proofs.Numbers.{num_bits, num_lt, bits_num}
use Rattle.bitmap.specs.Body.{words_of, groups_of, bitmap_length, number, stated, before, bitmap_names, bitmap_accepts, bitmap_layout}
use Rattle.bitmap.proofs.Words.{number_lt}
use Rattle.bitmap.proofs.Groups.{stated_at, ok_parts, parts_ok}

-- ---- a list that fits

module _ (s : ℕ) (rows : List ℕ) (rising : Rising 0 s rows) where
  abbrev body : List ℕ
  body = bitmap_layout s rows

  abbrev stating : ℕ → ℕ
  stating g = below rows (256 * g)

  -- counted from 0, as the laws of numbers say it, and as wide as the words are
  wide : Rising 0 (0 + 64 * words_of s) rows
  wide = rising_wider (omega arith) (omega arith) rising

  named : bits_from (64 * words_of s) 0 (num_from 0 rows) ≡ rows
  named = num_bits (64 * words_of s) 0 rows wide

  laid_number : number body s ≡ num_from 0 rows
  unfolding bitmap_layout
  laid_number =
      let heads = table 2 stating (groups_of s) in
      let words = digits (8 * words_of s) (num_from 0 rows) in
      let e : length heads ≡ 2 * groups_of s = omega (arith, table_length 2 stating (groups_of s)) in
      let f : 8 * (8 * words_of s) ≡ 64 * words_of s = omega arith in
      let l : num_from 0 rows < 256 ^ (8 * words_of s) = rw (pow_bytes, f) (num_lt (64 * words_of s) 0 rows wide) in
      rw add-zero at (le_second (8 * words_of s) heads words (2 * groups_of s) 0 e) ∙ le-digits (8 * words_of s) (num_from 0 rows) ∙ mod-eq_of_lt l

  -- the layout names the list
  pub layout_names : bitmap_names body s ≡ rows
  layout_names = rw laid_number named

  pub laid_length : length body ≡ bitmap_length s
  unfolding bitmap_layout
  laid_length = simp (length-append, length_digits) (omega (arith, table_length 2 stating (groups_of s)))

  laid_group : length rows ≤ 65535 → (g : ℕ) → g < groups_of s → stated body g ≡ before body s (256 * g)
  unfolding bitmap_layout
  laid_group few g h =
      let heads = table 2 stating (groups_of s) in
      let e : g * 2 ≡ 2 * g = omega arith in
      let l : stating g < 256 ^ 2 = omega (arith, below_most rows (256 * g)) in
      let b : stating g ≡ before body s (256 * g) = rw (laid_number, ← below_bits (64 * words_of s) (256 * g) (num_from 0 rows) (omega arith), named) in
      sym (stated_at body g) ∙ le_first 2 heads (digits (8 * words_of s) (num_from 0 rows)) (2 * g) (omega (arith, table_length 2 stating (groups_of s)))
      ∙ rw e at (table_at 2 stating (groups_of s) g h) ∙ mod-eq_of_lt l ∙ b

  -- and is accepted
  pub layout_accepted : 1 ≤ length rows → length rows ≤ 65535 → bitmap_accepts body s (length rows) ≡ true
  layout_accepted some few =
      parts_ok body s (length rows) (record {
        sized = laid_length;
        count = record { some = some; within = omega (arith, rising_room (omega arith) rising); most = few };
        short = rw laid_number (num_lt s 0 rows (rw zero-add rising));
        right = laid_group few;
        rows = ap length layout_names;
      })

-- ---- a body that is accepted

module _ (xs : List ℕ) (bytes : Bytes xs) (s n : ℕ) (ok : bitmap_accepts xs s n ≡ true) where
  number_back : num_from 0 (bitmap_names xs s) ≡ number xs s
  number_back = bits_num (64 * words_of s) 0 (number xs s) ∙ mod-eq_of_lt (number_lt xs bytes s)

  head : (g : ℕ) → g < groups_of s → digits 2 (below (bitmap_names xs s) (256 * g)) ≡ take 2 (drop (g * 2) xs)
  head g h =
      let p = ok_parts xs s n ok in
      let e : 2 * g ≡ g * 2 = omega arith in
      let b : below (bitmap_names xs s) (256 * g) ≡ le 2 xs (g * 2) = below_bits (64 * words_of s) (256 * g) (number xs s) (omega arith) ∙ sym (p.right g h) ∙ rw (← e) (sym (stated_at xs g)) in
      rw b (digits_le 2 xs (g * 2) bytes (omega (arith, p.sized)))

  -- it is the layout of what it names
  pub bitmap_layout_lem : bitmap_layout s (bitmap_names xs s) ≡ xs
  unfolding bitmap_layout
  bitmap_layout_lem =
      let p = ok_parts xs s n ok in
      let heads : flat (λ (g : ℕ). digits 2 (below (bitmap_names xs s) (256 * g))) (groups_of s) ≡ take (groups_of s * 2) xs =
      flat-same _ _ (groups_of s) head ∙ pieces 2 (groups_of s) xs in
      let words : digits (8 * words_of s) (number xs s) ≡ drop (2 * groups_of s) xs =
      digits_le (8 * words_of s) xs (2 * groups_of s) bytes (omega (arith, p.sized))
      ∙ take_all (8 * words_of s) (drop (2 * groups_of s) xs) (omega (arith, length-drop (2 * groups_of s) xs, p.sized)) in
      let e : groups_of s * 2 ≡ 2 * groups_of s = omega arith in
      rw (heads, number_back, words, e) (take-append-drop (2 * groups_of s) xs)
