-- An accepted bitmap: what it names, and that the readers answer of that list.
-- Assumes nothing.
use Rattle.std.proofs.Common.{◌≡◌, ℕ, ◌+◌, ◌-◌, ◌*◌, ◌/◌, ◌<◌, ◌≤◌, true, false, leb, List, length, get_or, drop, sym, ap, ◌∙◌, ⊎_elim, add-zero, arith, drop_of_length-le, get_or-drop, le-ltb, lt-ltb, leb-false, leb-true}
use lib.Seq.{drop-append-add}
use Rattle.model.specs.Tests.{pick}
use Rattle.model.specs.Lists.{Rising, below, has, place_of, walk_of, moved}
use Rattle.model.proofs.Tests.{order}
use Rattle.model.proofs.Standing.{below_whole, has_outside}
use Rattle.search.specs.Search.{find, up_to, allowed}
use Rattle.search.proofs.Laws.{find_hit, find_miss}
use Rattle.word.specs.Bits.{bits_from}
use Rattle.word.proofs.Bits.{bits_short}
use Rattle.word.proofs.Places.{rising_places, below_bits}
use Rattle.bitmap.specs.Body.{words_of, groups_of, bitmap_length, number, stated, before, bitmap_names, bitmap_accepts}
use Rattle.bitmap.specs.Reading.{bitmap_place, from, group_rows, group_for, in_group, bitmap_rest, bitmap_select, bitmap_walk}
use Rattle.bitmap.proofs.Words.{names_cut, before_mono}
use Rattle.bitmap.proofs.Groups.{Parts, ok_parts}
use Rattle.bitmap.proofs.Locating.{group_in, group_rows_lem, rest_none, rest_some}

module _ (xs : List ℕ) (s n : ℕ) (ok : bitmap_accepts xs s n ≡ true) where
  parts : Parts xs s n
  parts = ok_parts xs s n ok

  pub bitmap_sized : length xs ≡ bitmap_length s
  bitmap_sized = parts.sized

  -- ---- what it names

  pub bitmap_count : length (bitmap_names xs s) ≡ n
  bitmap_count = parts.rows

  pub bitmap_rising : Rising 0 s (bitmap_names xs s)
  bitmap_rising =
      let e : bitmap_names xs s ≡ bits_from s 0 (number xs s) = bits_short (64 * words_of s) s 0 (number xs s) (omega arith) parts.short in
      rw e (rising_places s (number xs s))

  -- ---- place

  pub bitmap_place_lem : (p : ℕ) → bitmap_place xs s n p ≡ place_of (bitmap_names xs s) p
  unfolding bitmap_place place_of pick
  bitmap_place_lem p =
      ⊎_elim
      (λ (h : p < s).
      let m : before xs s (256 * (p / 256)) ≤ before xs s p = before_mono xs s (256 * (p / 256)) p (omega arith) in
      let e : stated xs (p / 256) + (before xs s p - before xs s (256 * (p / 256))) ≡ below (bitmap_names xs s) p =
      omega (arith, parts.right (p / 256) (omega arith), below_bits (64 * words_of s) p (number xs s) (omega arith)) in
      rw (lt-ltb p s h, e))
      (λ (h : s ≤ p).
      let e : n ≡ below (bitmap_names xs s) p = sym (below_whole bitmap_rising p h ∙ bitmap_count) in
      let f : false ≡ has (bitmap_names xs s) p = sym (has_outside bitmap_rising p (λ w. omega (arith, w.1))) in
      rw (le-ltb p s h, ← e, ← f))
      (order p s)

  -- ---- select and walk

  module _ (k : ℕ) where
    abbrev last : ℕ
    last = group_for xs s k

    positive : 0 < s
    positive = omega (arith, parts.count.some, parts.count.within)

    -- the first group states no rows, so the search passes it
    passed : 0 < find (up_to false (stated xs) k) 0 (groups_of s)
    unfolding up_to allowed bits_from
    passed =
        ⊎_elim
        (λ (h : 0 < find (up_to false (stated xs) k) 0 (groups_of s)). h)
        (λ (h : find (up_to false (stated xs) k) 0 (groups_of s) ≤ 0).
        let z : find (up_to false (stated xs) k) 0 (groups_of s) ≡ 0 = omega arith in
        let m : leb (stated xs 0) k ≡ false = rw z at (find_miss (up_to false (stated xs) k) (groups_of s) (omega (arith, positive))) in
        absurd (omega (arith, leb-false (stated xs 0) k m, parts.right 0 (omega (arith, positive)))))
        (order 0 (find (up_to false (stated xs) k) 0 (groups_of s)))

    -- the group states at most k, and the next one more
    at_most : stated xs last ≤ k
    unfolding up_to allowed
    at_most = leb-true _ _ (find_hit (up_to false (stated xs) k) (groups_of s) passed)

    right_here : stated xs last ≡ before xs s (256 * last)
    right_here = parts.right last (group_in xs s k positive)

    next_more : last + 1 < groups_of s → k < before xs s (256 * (last + 1))
    unfolding up_to allowed
    next_more h =
        let e : find (up_to false (stated xs) k) 0 (groups_of s) ≡ last + 1 = omega (arith, passed) in
        let m : leb (stated xs (last + 1)) k ≡ false = rw e at (find_miss (up_to false (stated xs) k) (groups_of s) (omega arith)) in
        omega (arith, leb-false (stated xs (last + 1)) k m, parts.right (last + 1) h)

    -- an ordinal that there is stands in that group
    inside : k < n → in_group xs s k < length (group_rows xs s last)
    inside h =
        ⊎_elim
        (λ (l : last + 1 < groups_of s). omega (arith, at_most, right_here, next_more l, group_rows_lem xs s k last))
        (λ (l : groups_of s ≤ last + 1).
        omega (arith, at_most, right_here, parts.rows, group_rows_lem xs s k last, past_last l))
        (order (last + 1) (groups_of s))
      where
        past_last : groups_of s ≤ last + 1 → before xs s (256 * (last + 1)) ≡ length (bitmap_names xs s)
        past_last l = ap length (bits_short (256 * (last + 1)) s 0 (number xs s) (omega arith) parts.short ∙ sym (bits_short (64 * words_of s) s 0 (number xs s) (omega arith) parts.short))

    pub bitmap_rest_lem : bitmap_rest xs s k ≡ drop k (bitmap_names xs s)
    bitmap_rest_lem =
        let b = right_here in
        let a = at_most in
        let g = group_in xs s k positive in
        let e : before xs s (256 * last) + in_group xs s k ≡ k = omega arith in
        let cut : drop k (bitmap_names xs s) ≡ drop (in_group xs s k) (from xs s (256 * last)) =
        ap (λ (m : ℕ). drop m (bitmap_names xs s)) (sym e) ∙ rw (names_cut xs s (256 * last) (omega arith)) (drop-append-add (bits_from (256 * last) 0 (number xs s)) (from xs s (256 * last)) (in_group xs s k)) in
        ⊎_elim
        (λ (l : in_group xs s k < length (group_rows xs s last)). rest_some xs s k l ∙ sym cut)
        (λ (l : length (group_rows xs s last) ≤ in_group xs s k). rest_none xs s k l ∙ sym (drop_of_length-le (bitmap_names xs s) (past l)))
        (order (in_group xs s k) (length (group_rows xs s last)))
      where
        past : length (group_rows xs s last) ≤ in_group xs s k → length (bitmap_names xs s) ≤ k
        past l = ⊎_elim (λ (h : k < n). absurd (omega (arith, inside h))) (λ (h : n ≤ k). omega (arith, bitmap_count)) (order k n)

    pub bitmap_select_lem : bitmap_select xs s k ≡ get_or (bitmap_names xs s) k 0
    bitmap_select_lem = rw bitmap_rest_lem (get_or-drop k (bitmap_names xs s) 0 0 ∙ rw add-zero)

    pub bitmap_walk_lem : (base m : ℕ) → bitmap_walk xs s k base m ≡ moved base (walk_of (bitmap_names xs s) k m)
    bitmap_walk_lem base m = rw bitmap_rest_lem
