-- A bitmap written word by word: the digits of each word, and the rows before each group in front of the words.
-- Assumes nothing.
use mathlib.Core.Path.{◌≡◌, refl, sym, ap, subst, ◌∙◌}
use mathlib.Core.Bool.{true, false}
use mathlib.Core.Logic.{⊎_elim}
use mathlib.Core.List.{List, [], ◌∷◌, ◌++◌, append_assoc, append-nil}
use Prim.Native.Nat.{ℕ, zero, suc, ◌+◌, ◌-◌, ◌*◌, ◌/◌, ◌%◌, ◌^◌, ◌<◌, ◌≤◌}
use native.Mathlib.Nat.{zero-add, add-zero, add-suc, sub-zero, add-mul, eq-or-lt_of_le}
use native.Mathlib.Numerals.{add-one}
use native.Mathlib.Omega.{arith}
use lib.Arith.{digits_lt}
use lib.Bits.{bit_or}
use lib.Dec.{eqb}
use lib.ListN.{length, get_or, take, length-append}
use lib.Pow.{pow_pos, pow_mono, pow-add, shr_lt, high, low}
use lib.Seq.{sets, take_all, take-suc}
use borrow.Author.Tests.{eq-eqb, ne_eqb, eqb-true}
use Rattle.fields.specs.Le.{digits, put}
use Rattle.fields.proofs.Laws.{length_digits, put_split}
use Rattle.fields.proofs.Binary.{pow_bytes}
use Rattle.model.specs.Tests.{flat}
use Rattle.model.specs.Lists.{Rising, below, range}
use Rattle.model.proofs.Ranges.{range-append}
use Rattle.model.proofs.Sets.{sets-append}
use Rattle.model.proofs.Tests.{order, never, strictly, same_or_not, pick_true, pick_false}
use Rattle.model.proofs.Rising.{rising_below, rising_before, rising_apart}
use Rattle.model.proofs.Standing.{below_cut}
use Rattle.word.specs.Bits.{num_from}
use Rattle.word.proofs.Numbers.{num_lt}
use Rattle.word.proofs.Masks.{num_append, range_or, range_lt, range_up}
use Rattle.bitmap.specs.Body.{words_of, groups_of, bitmap_layout}
use Rattle.emit.specs.declared.Word.{Word}
use Rattle.emit.specs.Written.{Written}
use Rattle.emit.specs.Words.{with_digit, with_run, counted_at, Cut, Worded, Wording}
use Rattle.emit.proofs.Passing.{Stands}
use Rattle.emit.proofs.Storing.{put_comm}

num_below : {b : ℕ} {xs : List ℕ} → Rising 0 b xs → (i : ℕ) → i < length xs → {start : ℕ} → start ≡ get_or xs i 0 → num_from 0 (take i xs) < 2 ^ start
num_below {b} {xs} r i h {start} a = num_lt start 0 (take i xs) (rw (zero-add, a) (rising_before i r h))

pow_word : (k : ℕ) → 256 ^ (8 * k) ≡ 2 ^ (64 * k)
pow_word k = let e : 8 * (8 * k) ≡ 64 * k = omega arith in rw (pow_bytes, e)

-- ---- positions that stand one behind the other

-- two of them are at least as far apart as their places are
pub apart : {a b : ℕ} {xs : List ℕ} → Rising a b xs → (i j : ℕ) → i ≤ j → j < length xs → get_or xs i 0 + (j - i) ≤ get_or xs j 0
apart {xs = xs} r i j h l = ⊎_elim (λ (e : i ≡ j). rw e (omega arith)) (λ (g : i < j). rising_apart r i j g l) (eq-or-lt_of_le h)

-- n of them from index j on, the first of them q, all in the word of q
pub record Stretch (xs : List ℕ) (j q n : ℕ) : Type 0 where
  pub some : 1 ≤ n
  pub fits : q % 64 + n ≤ 64
  pub inside : j + n ≤ length xs
  pub each : (m : ℕ) → m < n → get_or xs (j + m) 0 ≡ q + m

stretch-one : {xs : List ℕ} {j q : ℕ} → Stands xs j q → Stretch xs j q 1
stretch-one f = record { some = omega arith; fits = omega arith; inside = omega (arith, f.0); each = λ m h. let z : m ≡ 0 = omega arith in rw (z, add-zero, add-zero) f.1 }

take-stretch : (xs : List ℕ) (j q n : ℕ) → j + n ≤ length xs → ((m : ℕ) → m < n → get_or xs (j + m) 0 ≡ q + m) → take (j + n) xs ≡ take j xs ++ range q n
unfolding range
take-stretch xs j q zero h e = rw (add-zero, append-nil)
take-stretch xs j q (suc n) h e =
    let more : range q (suc n) ≡ range q n ++ ((q + n) ∷ []) = ap (range q) (sym (add-one n)) ∙ range-append q n 1 in
    rw (add-suc, take-suc xs (j + n) 0 (omega arith), e n (omega arith), take-stretch xs j q n (omega arith) (λ m l. e m (omega arith)), more, append_assoc)

-- ---- on the way through the rows of one word

module _ {xs : List ℕ} {k i : ℕ} (c : Cut xs k i) where
  module _ {w : Word} (s : Wording xs k i w) where
    through : ((m : ℕ) → w.next ≤ m → m < length xs → 64 * (k + 1) ≤ get_or xs m 0) → Worded xs k i w
    through o =
        let e : 64 * (k + 1) ≡ 64 + 64 * k = omega arith in
        let l : w.bits * 2 ^ (64 * k) + num_from 0 (take i xs) < 2 ^ 64 * 2 ^ (64 * k) = digits_lt s.small c.low in
        record { cut = record { upto = s.upto; under = s.under; over = o; low = rw (s.so, e, pow-add 2 64 (64 * k)) l }; so = s.so }

    pub wording_end : length xs ≤ w.next → Worded xs k i w
    wording_end h = through (λ m g l. absurd (omega arith))

    pub wording_stop : {b q : ℕ} → Rising 0 b xs → Stands xs w.next q → eqb (q / 64) k ≡ false → Worded xs k i w
    wording_stop {b} {q} r f e =
        let l : 64 * k ≤ q = rw (← f.1) (c.over w.next s.begun f.0) in
        let g : k < q / 64 = strictly (omega arith) (λ (z : k ≡ q / 64). never (eq-eqb (q / 64) k (sym z)) e) in
        through (λ m u v. omega (arith, apart r w.next m u v, f.1))

    -- one mask for all that stand one behind the other
    pub wording_run : {b q n : ℕ} → Rising 0 b xs → Stretch xs w.next q n → eqb (q / 64) k ≡ true → Wording xs k i (with_run w q n)
    wording_run {b} {q} {n} r t e =
        let j = w.next in
        let d : q / 64 ≡ k = eqb-true (q / 64) k e in
        let p = q % 64 in
        let f : q ≡ p + 64 * k = omega arith in
        let z : get_or xs j 0 ≡ q = rw (add-zero, add-zero) at (t.each 0 (omega (arith, t.some))) in
        let u : num_from 0 (take j xs) < 2 ^ (p + 64 * k) = subst (λ (x : ℕ). num_from 0 (take j xs) < 2 ^ x) f (num_below r j (omega (arith, t.some, t.inside)) (sym z)) in
        let v : w.bits < 2 ^ p = rw (s.so, high w.bits (64 * k) c.low) at (shr_lt p (64 * k) u) in
        let ones = num_from 0 (range p n) in
        let o : bit_or w.bits ones ≡ ones + w.bits = range_or p n w.bits v in
        let m : 2 ^ (n + p) ≤ 2 ^ 64 = pow_mono {i = n + p} {j = 64} (omega (arith, t.fits)) in
        let one : num_from 0 (take (j + n) xs) ≡ num_from 0 (take j xs) + num_from 0 (range q n) = rw (take-stretch xs j q n t.inside t.each, num_append) in
        let two : num_from 0 (range q n) ≡ ones * 2 ^ (64 * k) = ap (λ (x : ℕ). num_from 0 (range x n)) f ∙ range_up p (64 * k) n in
        let three : (ones + w.bits) * 2 ^ (64 * k) ≡ ones * 2 ^ (64 * k) + w.bits * 2 ^ (64 * k) = add-mul ones w.bits (2 ^ (64 * k)) in
        record {
          begun = omega (arith, s.begun);
          upto = t.inside;
          under = λ x l. ⊎_elim (λ (y : x < j). s.under x y) (λ (y : j ≤ x). let a : j + (x - j) ≡ x = omega arith in omega (arith, rw a at (t.each (x - j) (omega arith)), t.fits)) (order x j);
          small = rw o (omega (arith, range_lt p n w.bits v, m));
          so = rw o (omega (arith, one, two, three, s.so));
        }

  -- a single row is a mask of one
  pub wording_next : {j bits b q more : ℕ} → Wording xs k i (record { bits = bits; next = j }) → Rising 0 b xs → Stands xs j q → eqb (q / 64) k ≡ true → more ≡ with_digit bits q → Wording xs k i (record { bits = more; next = j + 1 })
  unfolding num_from range
  wording_next {j} {bits} {b} {q} {more} s r f e d =
      let one : num_from 0 (range (q % 64) 1) ≡ 2 ^ (q % 64) = rw sub-zero (omega arith) in
      rw (d, ← one) (wording_run s r (stretch-one f) e)

pub cut_start : (xs : List ℕ) → Cut xs 0 0
unfolding num_from
cut_start xs = record { upto = omega arith; under = λ m h. absurd (omega arith); over = λ m g h. omega arith; low = pow_pos (64 * 0) }

-- ---- the loop over words: k of them stand, and the rows before each group that one of them begins

abbrev heads : List ℕ → ℕ → List ℕ
heads xs n = flat (λ (g : ℕ). digits 2 (below xs (256 * g))) n

length_heads : (xs : List ℕ) (n : ℕ) → length (heads xs n) ≡ 2 * n
unfolding flat
length_heads xs zero = refl
length_heads xs (suc n) = simp (length-append, length_digits) (omega (arith, length_heads xs n))

heads_more : (xs before : List ℕ) (at g i : ℕ) → below xs (256 * g) ≡ i → put 2 (sets before at (heads xs g)) (at + 2 * g) i ≡ sets before at (heads xs (suc g))
unfolding put flat
heads_more xs before at g i n = rw n (sym (sets-append (heads xs g) (digits 2 i) before at ∙ ap (λ (m : ℕ). sets (sets before at (heads xs g)) (at + m) (digits 2 i)) (length_heads xs g)))

abbrev standing : ℕ → List ℕ → List ℕ → ℕ → ℕ → ℕ → ℕ → List ℕ
standing span xs before at k groups i = put (8 * k) (sets before at (heads xs groups)) (at + 2 * groups_of span) (num_from 0 (take i xs))

pub record Mapping (span : ℕ) (xs before : List ℕ) (at k i p : ℕ) (out : List ℕ) : Type 0 where
  pub within : k ≤ words_of span
  pub place : p ≡ at + 2 * groups_of span + 8 * k
  pub cut : Cut xs k i
  pub so : out ≡ standing span xs before at k ((k + 3) / 4) i

module _ (span : ℕ) (xs before : List ℕ) (at : ℕ) where
  pub mapping_start : {p : ℕ} → p ≡ at + 2 * groups_of span → Mapping span xs before at 0 0 p before
  unfolding put digits flat num_from
  mapping_start e = record { within = omega arith; place = omega arith; cut = cut_start xs; so = refl }

  module _ {k i p : ℕ} {out : List ℕ} (s : Mapping span xs before at k i p out) where
    -- the rows before the word k, where it begins a group
    begins : k < words_of span → k % 4 ≡ 0 → put 2 out (at + 2 * (k / 4)) i ≡ standing span xs before at k ((k + 1 + 3) / 4) i
    begins h z =
        let g = k / 4 in
        let e : (k + 3) / 4 ≡ g = omega arith in
        let f : (k + 1 + 3) / 4 ≡ suc g = omega arith in
        let d : 256 * g ≡ 64 * k = omega arith in
        let c = s.cut in
        let n : below xs (256 * g) ≡ i = rw d (below_cut xs (64 * k) i c.upto c.under c.over) in
        let o : out ≡ standing span xs before at k g i = rw e at s.so in
        rw (o, f, ← heads_more xs before at g i n) (put_comm 2 (8 * k) (sets before at (heads xs g)) (at + 2 * g) (at + 2 * groups_of span) i (num_from 0 (take i xs)) (omega arith))

    pub mapping_counted : k < words_of span → {ys : List ℕ} → ys ≡ counted_at out at k i → ys ≡ standing span xs before at k ((k + 1 + 3) / 4) i
    unfolding counted_at
    mapping_counted h e =
        e
        ∙ ⊎_elim
        (λ (z : k % 4 ≡ 0). pick_true _ _ (eq-eqb (k % 4) 0 z) ∙ begins h z)
        (λ (z : k % 4 ≡ 0 → ⊥). let f : (k + 1 + 3) / 4 ≡ (k + 3) / 4 = omega arith in pick_false _ _ (ne_eqb (k % 4) 0 z) ∙ rw f s.so)
        (same_or_not (k % 4) 0)

    pub mapping_next : k < words_of span → {r : Word} → Worded xs k i r → {ys zs : List ℕ} → ys ≡ counted_at out at k i → zs ≡ put 8 ys p r.bits → Mapping span xs before at (k + 1) r.next (p + 8) zs
    mapping_next h {r} w e f =
        let lo = num_from 0 (take i xs) in
        let n = r.bits * 2 ^ (64 * k) + lo in
        let small = s.cut.low in
        let l : n % 256 ^ (8 * k) ≡ lo = rw pow_word (low r.bits (64 * k) small) in
        let u : n / 256 ^ (8 * k) ≡ r.bits = rw pow_word (high r.bits (64 * k) small) in
        let d : 8 * (k + 1) ≡ 8 * k + 8 = omega arith in
        record {
          within = omega arith;
          place = omega (arith, s.place);
          cut = w.cut;
          so = f ∙ rw (mapping_counted h e, s.place, w.so, d) (sym (put_split (8 * k) 8 _ (at + 2 * groups_of span) n ∙ rw (l, u)));
        }

    pub mapping_end : Rising 0 span xs → words_of span ≤ k → Written (bitmap_layout span xs) at before out p
    unfolding bitmap_layout put
    mapping_end r h =
        let w = s.within in
        let e : k ≡ words_of span = omega arith in
        let c = s.cut in
        let t : length xs ≤ i = ⊎_elim (λ (z : i < length xs). absurd (omega (arith, c.over i (omega arith) z, rising_below r i z))) (λ (z : length xs ≤ i). z) (order i (length xs)) in
        let o : out ≡ standing span xs before at (words_of span) (groups_of span) i = rw e at s.so in
        let G = groups_of span in
        let v = digits (8 * words_of span) (num_from 0 xs) in
        record {
          stands = o ∙ rw (take_all i xs t) (sym (sets-append (heads xs G) v before at ∙ ap (λ (m : ℕ). sets (sets before at (heads xs G)) (at + m) v) (length_heads xs G)));
          behind = rw (s.place, e) (simp (length-append, length_digits, length_heads) (omega arith));
        }
