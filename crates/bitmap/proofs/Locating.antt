-- Where an ordinal stands: its group by the search, then word by word through the group.
-- Assumes nothing.
use Rattle.std.proofs.Common.{◌≡◌, ℕ, ◌+◌, ◌-◌, ◌*◌, ◌/◌, ◌^◌, ◌<◌, ◌≤◌, min, false, List, [], length, drop, ◌∙◌, arith, le-ltb, lt-ltb}
use lib.Seq.{drop-append-add}
use Rattle.fields.specs.Le.{Bytes, le}
use Rattle.model.specs.Tests.{pick}
use Rattle.search.specs.Search.{up_to}
use Rattle.search.proofs.Laws.{find_within}
use Rattle.word.specs.Bits.{bits_from, bits_of}
use Rattle.bitmap.specs.Body.{words_of, groups_of, number, word_of, stated, before}
use Rattle.bitmap.specs.Reading.{from, group_rows, group_for, in_group, bitmap_rest, Standing}
use Rattle.bitmap.proofs.Words.{between, before_mono, before_word, before_past, before_group, from_cut}
use Rattle.bitmap.proofs.Groups.{stated_at}

module _ (xs : List ℕ) (s k : ℕ) where
  pub group_in : 0 < s → group_for xs s k < groups_of s
  group_in h = omega (arith, find_within (up_to false (stated xs) k) (groups_of s))

  -- how many rows group g has
  pub group_rows_lem : (g : ℕ) → before xs s (256 * g) + length (group_rows xs s g) ≡ before xs s (256 * (g + 1))
  group_rows_lem g =
      let e : 256 * (g + 1) - 256 * g ≡ 256 = omega arith in
      rw e at (between xs s (256 * g) (256 * (g + 1)) (omega arith))

  pub rest_none : length (group_rows xs s (group_for xs s k)) ≤ in_group xs s k → bitmap_rest xs s k ≡ []
  unfolding bitmap_rest pick
  rest_none h = rw (le-ltb _ _ h)

  pub rest_some : in_group xs s k < length (group_rows xs s (group_for xs s k)) → bitmap_rest xs s k ≡ drop (in_group xs s k) (from xs s (256 * group_for xs s k))
  unfolding bitmap_rest pick
  rest_some h = rw (lt-ltb _ _ h)

  -- left of the rows that are looked for stand from word i of the group on
  pub record Locating (g end left i : ℕ) : Type 0 where
    pub group : g ≡ group_for xs s k
    pub stop : end ≡ min (4 * g + 4) (words_of s)
    pub begun : 4 * g ≤ i
    pub inside : i ≤ end
    pub sum : before xs s (64 * i) + left ≡ before xs s (256 * g) + in_group xs s k

  pub locating_start : {g end st left : ℕ} → 0 < s → g ≡ group_for xs s k → end ≡ min (4 * g + 4) (words_of s) → st ≡ le 2 xs (2 * g) → left ≡ k - st → Locating g end left (4 * g)
  locating_start {g} {end} {st} {left} h eg ee est el =
      let e : 64 * (4 * g) ≡ 256 * g = omega arith in
      let q : left ≡ in_group xs s k = el ∙ rw (est, stated_at, eg) in
      record { group = eg; stop = ee; begun = omega arith; inside = omega (arith, group_in h); sum = rw (e, q) }

  module _ (bytes : Bytes xs) where
    pub spotted_empty : s ≡ 0 → bitmap_rest xs s k ≡ []
    spotted_empty z =
        let g = group_for xs s k in
        rest_none (omega (arith, group_rows_lem g, before_past xs bytes s (256 * g) (omega arith), before_past xs bytes s (256 * (g + 1)) (omega arith)))

    module _ {g end left i : ℕ} (l : Locating g end left i) where
      pub spotted_found : (n : ℕ) → i < end → n ≡ length (bits_of (word_of xs s i)) → left < n → Standing xs s k (record { index = i; left = left })
      spotted_found n h en less =
          let G = group_for xs s k in
          let sum : before xs s (64 * i) + left ≡ before xs s (256 * G) + in_group xs s k = rw l.group at l.sum in
          let begun : 4 * G ≤ i = rw l.group at l.begun in
          let w : i < words_of s = omega (arith, l.stop) in
          let m : before xs s (64 * (i + 1)) ≤ before xs s (256 * (G + 1)) = before_mono xs s (64 * (i + 1)) (256 * (G + 1)) (omega (arith, l.stop, l.group)) in
          let inside : in_group xs s k < length (group_rows xs s G) = omega (arith, group_rows_lem G, before_word xs bytes s i w) in
          let first = bits_from (64 * i - 256 * G) (256 * G) (number xs s / 2 ^ (256 * G)) in
          let e : in_group xs s k ≡ length first + left = omega (arith, between xs s (256 * G) (64 * i) (omega arith)) in
          record {
            inside = w;
            row = rw en at less;
            rest = rest_some inside ∙ rw (e, from_cut xs s (256 * G) (64 * i) (omega arith) (omega arith)) (drop-append-add first (from xs s (64 * i)) left);
          }

      pub locating_next : (n : ℕ) → i < end → n ≡ length (bits_of (word_of xs s i)) → n ≤ left → Locating g end (left - n) (i + 1)
      locating_next n h en more =
          let b = before_word xs bytes s i (omega (arith, l.stop)) in
          record { group = l.group; stop = l.stop; begun = omega (arith, l.begun); inside = omega arith; sum = omega (arith, l.sum) }

      pub spotted_none : end ≤ i → bitmap_rest xs s k ≡ []
      spotted_none h =
          let G = group_for xs s k in
          let f : i ≡ min (4 * g + 4) (words_of s) = omega (arith, l.stop, l.inside) in
          let e : i ≡ min (4 * G + 4) (words_of s) = rw l.group at f in
          let sum : before xs s (64 * i) + left ≡ before xs s (256 * G) + in_group xs s k = rw l.group at l.sum in
          let b : before xs s (64 * i) ≡ before xs s (256 * (G + 1)) = rw e (before_group xs bytes s G) in
          rest_none (omega (arith, group_rows_lem G))
