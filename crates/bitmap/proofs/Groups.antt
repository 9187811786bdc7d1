-- The check of a bitmap: groups counted one by one, bits past the span, and what acceptance gives.
-- Assumes nothing.
use Rattle.std.proofs.Common.{◌≡◌, ℕ, ◌+◌, ◌-◌, ◌*◌, ◌/◌, ◌%◌, ◌^◌, ◌<◌, ◌≤◌, min, Bool, true, ◌&&◌, eqb, ltb, List, length, sym, refl, ◌∙◌, subst, mod-eq_of_lt, mul_comm, zero-add, arith, shr-shr, shr_lt, ltb-true, lt-ltb, eq-eqb, eqb-true}
use Rattle.fields.specs.Le.{Bytes, le}
use Rattle.model.specs.Tests.{both, all}
use Rattle.model.proofs.Counted.{and_both, both_pass, Count, counted_right, counted_count}
use Rattle.model.proofs.Tests.{all_step, all_at, all_from, both_left, both_right, both_true}
use Rattle.search.specs.Search.{entry}
use Rattle.word.specs.Bits.{bits_from}
use Rattle.word.proofs.Numbers.{pow_test}
use Rattle.bitmap.specs.Body.{words_of, groups_of, bitmap_length, number, word_of, stated, before, bitmap_names, exact, bitmap_accepts}
use Rattle.bitmap.specs.Reading.{Between}
use Rattle.bitmap.proofs.Words.{number_lt, word, before_group, before_past}

pub stated_at : (xs : List ℕ) (g : ℕ) → le 2 xs (2 * g) ≡ stated xs g
unfolding entry
stated_at xs g = rw (zero-add, mul_comm g 2)

-- g groups are tested, and their rows counted
pub record Counting (xs : List ℕ) (s n : ℕ) (ok : Bool) (g : ℕ) : Type 0 where
  pub inside : g ≤ groups_of s
  pub flag : ok ≡ all (exact xs s) g
  pub rows : n ≡ before xs s (256 * g)

pub counting_start : (xs : List ℕ) (s : ℕ) → Counting xs s 0 true 0
unfolding all bits_from
counting_start xs s = record { inside = omega arith; flag = refl; rows = refl }

module _ (xs : List ℕ) (bytes : Bytes xs) (s : ℕ) where
  pub counting_next : (n : ℕ) (ok : Bool) (g x j m : ℕ) → Counting xs s n ok g → g < groups_of s → x ≡ le 2 xs (2 * g) → j ≡ min (4 * g + 4) (words_of s) → Between xs s (4 * g) j m
      → Counting xs s (n + m) (ok && eqb x n) (g + 1)
  unfolding exact
  counting_next n ok g x j m c h ex ej b =
      let e : 64 * (4 * g) ≡ 256 * g = omega arith in
      let sum : before xs s (256 * g) + m ≡ before xs s (64 * min (4 * g + 4) (words_of s)) = rw (e, ej) at b.sum in
      record {
        inside = omega arith;
        flag = rw (and_both, all_step, c.flag, c.rows, ex, stated_at);
        rows = rw c.rows (sum ∙ before_group xs bytes s g);
      }

  pub counting_end : (n : ℕ) (ok : Bool) (g count : ℕ) → Counting xs s n ok g → groups_of s ≤ g → (ok && eqb n count) ≡ both (all (exact xs s) (groups_of s)) (eqb (length (bitmap_names xs s)) count)
  counting_end n ok g count c h =
      let e : g ≡ groups_of s = omega (arith, c.inside) in
      let k : n ≡ length (bitmap_names xs s) = c.rows ∙ before_past xs bytes s (256 * g) (omega (arith, c.inside)) in
      rw (and_both, c.flag, k, e)

-- ---- bits past the span

module _ (xs : List ℕ) (bytes : Bytes xs) (s : ℕ) where
  -- the last word is all that is left of the number above the others
  last_word : 0 < s → number xs s / 2 ^ (64 * (words_of s - 1)) ≡ word_of xs s (words_of s - 1)
  last_word h =
      let e : 64 * words_of s ≡ 64 + 64 * (words_of s - 1) = omega arith in
      let l : number xs s < 2 ^ (64 + 64 * (words_of s - 1)) = rw e at (number_lt xs bytes s) in
      sym (mod-eq_of_lt (shr_lt 64 (64 * (words_of s - 1)) l)) ∙ word xs bytes s (words_of s - 1) (omega arith)

  pub past_full : s % 64 ≡ 0 → true ≡ ltb (number xs s) (2 ^ s)
  past_full z =
      let e : 64 * words_of s ≡ s = omega arith in
      sym (lt-ltb _ _ (subst (λ (n : ℕ). number xs s < 2 ^ n) e (number_lt xs bytes s)))

  pub past_test : 0 < s % 64 → eqb (word_of xs s (words_of s - 1) / 2 ^ (s % 64)) 0 ≡ ltb (number xs s) (2 ^ s)
  past_test h =
      let e : 64 * (words_of s - 1) + s % 64 ≡ s = omega arith in
      rw (← last_word (omega arith), shr-shr (number xs s) (64 * (words_of s - 1)) (s % 64), e) (pow_test (number xs s) s)

-- ---- the answer of the check where the other tests pass

module _ (xs : List ℕ) (s n : ℕ) where
  pub accept_rest : {r : Bool} → length xs ≡ bitmap_length s → Count s n → ltb (number xs s) (2 ^ s) ≡ true
      → r ≡ both (all (exact xs s) (groups_of s)) (eqb (length (bitmap_names xs s)) n) → r ≡ bitmap_accepts xs s n
  unfolding bitmap_accepts
  accept_rest l c h e = both_pass (eq-eqb _ _ l) (both_pass (counted_right s n c) (both_pass h e))

-- ---- what acceptance gives

pub record Parts (xs : List ℕ) (s n : ℕ) : Type 0 where
  pub sized : length xs ≡ bitmap_length s
  pub count : Count s n
  pub short : number xs s < 2 ^ s
  pub right : (g : ℕ) → g < groups_of s → stated xs g ≡ before xs s (256 * g)
  pub rows : length (bitmap_names xs s) ≡ n

pub ok_parts : (xs : List ℕ) (s n : ℕ) → bitmap_accepts xs s n ≡ true → Parts xs s n
unfolding bitmap_accepts exact
ok_parts xs s n e1 =
    let e2 = both_right _ _ e1 in
    let e3 = both_right _ _ e2 in
    let e4 = both_right _ _ e3 in
    record {
      sized = eqb-true _ _ (both_left _ _ e1);
      count = counted_count s n (both_left _ _ e2);
      short = ltb-true _ _ (both_left _ _ e3);
      right = λ g h. eqb-true _ _ (all_at (exact xs s) (groups_of s) (both_left _ _ e4) g h);
      rows = eqb-true _ _ (both_right _ _ e4);
    }

pub parts_ok : (xs : List ℕ) (s n : ℕ) → Parts xs s n → bitmap_accepts xs s n ≡ true
unfolding exact
parts_ok xs s n p =
    sym (accept_rest xs s n p.sized p.count (lt-ltb _ _ p.short)
    (sym (both_true _ _ (all_from (exact xs s) (groups_of s) (λ g h. eq-eqb _ _ (p.right g h))) (eq-eqb _ _ p.rows))))
