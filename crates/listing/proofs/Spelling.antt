-- Laws of the listing's text: what stores one after the other leave, and the digits of a number.
-- Assumes nothing.
use mathlib.Core.Path.{◌≡◌, refl, sym, ap, ◌∙◌}
use mathlib.Core.Logic.{⊎_elim}
use mathlib.Core.List.{List, [], ◌∷◌, ◌++◌}
use Prim.Native.Nat.{ℕ, zero, suc, ◌+◌, ◌-◌, ◌*◌, ◌/◌, ◌%◌, ◌^◌, ◌<◌, ◌≤◌}
use native.Mathlib.Nat.{pow-zero, pow-succ', le_refl}
use native.Mathlib.Numerals.{add-one}
use native.Mathlib.Omega.{arith}
use lib.Dec.{eqb}
use lib.ListN.{length, set, length-append, length-set}
use lib.Seq.{sets, set_comm, take_all}
use borrow.Rule.Slice.PartMut.{put_mid}
use Rattle.std.proofs.lemmas.List.Edits.{sets-eq}
use Rattle.std.proofs.lemmas.Slice.{put_mid-paste}
use borrow.Author.Tests.{eq-eqb, ne_eqb}
use Rattle.model.specs.Tests.{pick}
use Rattle.model.proofs.Tests.{either}
use Rattle.model.proofs.Sets.{sets-append}
use Rattle.listing.specs.Text.{Put, digits, decimal, places}

-- ---- stores

-- one text after another
pub put_then : {a b : ℕ} {before mid after u v : List ℕ} {at m r : ℕ} → Put a before at u mid m → Put b mid m v after r → Put (a + b) before at (u ++ v) after r
put_then {before = before} {u = u} {v = v} {at = at} p q =
    record {
      written = rw (sets-append u v before at, ← p.written, ← p.ends) q.written;
      ends = rw length-append (omega (arith, p.ends, q.ends));
      short = rw length-append (omega (arith, p.short, q.short));
    }

-- one byte in front
pub put_front : {a x r : ℕ} {before after u : List ℕ} {at : ℕ} → Put a (set before at x) (at + 1) u after r → Put (a + 1) before at (x ∷ u) after r
put_front {at = at} p = record { written = rw (add-one at) at p.written; ends = omega (arith, p.ends); short = omega (arith, p.short) }

-- more room than is needed
pub put_wider : {a b : ℕ} {before after u : List ℕ} {at r : ℕ} → a ≤ b → Put a before at u after r → Put b before at u after r
put_wider h p = record { written = p.written; ends = p.ends; short = omega (arith, p.short) }

-- a store behind the others may come first
pub sets_after : (vs l : List ℕ) (at j v : ℕ) → at + length vs ≤ j → set (sets l at vs) j v ≡ sets (set l j v) at vs
sets_after [] l at j v h = refl
sets_after (a ∷ vs) l at j v h =
    sets_after vs (set l at a) (suc at) j v (omega arith) ∙ ap (λ (k : List ℕ). sets k (suc at) vs) (set_comm l at j a v (λ e. omega arith))

-- ---- digits

pub length-places : (k n : ℕ) → length (places k n) ≡ k
unfolding places
length-places zero n = refl
length-places (suc k) n = rw length-append (omega (arith, length-places k (n / 10)))

-- one turn of the loop that writes from the last digit on
pub places_step : (k n : ℕ) (l : List ℕ) (at : ℕ) → sets l at (places (suc k) n) ≡ sets (set l (at + k) (48 + n % 10)) at (places k (n / 10))
unfolding places
places_step k n l at =
    sets-append (places k (n / 10)) ((48 + n % 10) ∷ []) l at
    ∙ rw (length-places k (n / 10)) (sets_after (places k (n / 10)) l at (at + k) (48 + n % 10) (rw (length-places k (n / 10)) (omega arith)))

-- one more digit behind
places_more : (xs : List ℕ) (n : ℕ) → xs ≡ places (length xs) (n / 10) → xs ++ ((48 + n % 10) ∷ []) ≡ places (length (xs ++ ((48 + n % 10) ∷ []))) n
unfolding places
places_more xs n h =
    let e : length (xs ++ ((48 + n % 10) ∷ [])) ≡ suc (length xs) = rw length-append (omega arith) in
    rw e (ap (λ (ys : List ℕ). ys ++ ((48 + n % 10) ∷ [])) h)

-- digits without zeros in front are the last so many
pub digits-places : (f n : ℕ) → digits f n ≡ places (length (digits f n)) n
unfolding digits places pick
digits-places zero n = refl
digits-places (suc f) n = ⊎_elim (λ e. rw e) (λ e. rw e (places_more (digits f (n / 10)) n (digits-places f (n / 10)))) (either (eqb n 0))

pub decimal-places : (n : ℕ) → decimal n ≡ places (length (decimal n)) n
unfolding decimal
decimal-places n = places_more (digits 19 (n / 10)) n (digits-places 19 (n / 10))

-- no digits of 0
pub digits_none : (f n : ℕ) → n ≡ 0 → digits f n ≡ []
unfolding digits pick
digits_none zero n e = refl
digits_none (suc f) n e = rw (eq-eqb n 0 e)

-- a number below ten to the f has no more than f digits
pub digits_enough : (f n : ℕ) → n < 10 ^ f → digits (suc f) n ≡ digits f n
unfolding digits pick
digits_enough zero n h = digits_none 1 n (omega (arith, rw pow-zero at h))
digits_enough (suc f) n h =
    let b : n / 10 < 10 ^ f = omega (arith, rw pow-succ' at h) in
    ⊎_elim (λ e. rw e) (λ e. rw (e, digits_enough f (n / 10) b)) (either (eqb n 0))

pub digits_short : (f n : ℕ) → length (digits f n) ≤ f
unfolding digits pick
digits_short zero n = omega arith
digits_short (suc f) n =
    ⊎_elim (λ e. rw e (omega arith))
    (λ e. rw e (omega (arith, length-append (digits f (n / 10)) ((48 + n % 10) ∷ []), digits_short f (n / 10))))
    (either (eqb n 0))

pub decimal_short : (n : ℕ) → length (decimal n) ≤ 20
unfolding decimal
decimal_short n = omega (arith, length-append (digits 19 (n / 10)) ((48 + n % 10) ∷ []), digits_short 19 (n / 10))

tens_some : (k : ℕ) → 0 < 10 ^ k
tens_some zero = rw pow-zero (omega arith)
tens_some (suc k) = rw pow-succ' (omega (arith, tens_some k))

-- a number from ten to the k on, and below the next power, has k + 1 digits
pub digits_length : (f k n : ℕ) → k < f → 10 ^ k ≤ n → n < 10 * 10 ^ k → length (digits f n) ≡ k + 1
unfolding digits pick
digits_length zero k n h l m = absurd (omega arith)
digits_length (suc f) zero n h l m =
    let least : 1 ≤ n = rw pow-zero at l in
    let most : n < 10 = omega (arith, pow-zero 10) in
    rw (ne_eqb n 0 (λ e. omega arith), digits_none f (n / 10) (omega arith)) refl
digits_length (suc f) (suc k) n h l m =
    let least : 10 * 10 ^ k ≤ n = rw pow-succ' at l in
    let most : n < 10 * (10 * 10 ^ k) = rw pow-succ' at m in
    rw (ne_eqb n 0 (λ e. omega (arith, tens_some k)))
    (omega (arith, length-append (digits f (n / 10)) ((48 + n % 10) ∷ []), digits_length f k (n / 10) (omega arith) (omega arith) (omega arith)))

pub decimal_length : (k v : ℕ) → k < 20 → 10 ^ k ≤ v → v < 10 * 10 ^ k → k + 1 ≡ length (decimal v)
unfolding decimal
decimal_length zero v h l m =
    let most : v < 10 = omega (arith, pow-zero 10) in
    rw (digits_none 19 (v / 10) (omega arith)) refl
decimal_length (suc k) v h l m =
    let least : 10 * 10 ^ k ≤ v = rw pow-succ' at l in
    let most : v < 10 * (10 * 10 ^ k) = rw pow-succ' at m in
    omega (arith, length-append (digits 19 (v / 10)) ((48 + v % 10) ∷ []), digits_length 19 k (v / 10) (omega arith) (omega arith) (omega arith))

-- ---- the loop that writes digits: what is left to write, over what is written, is the whole

pub record Placing (first : List ℕ) (at n v : ℕ) (out : List ℕ) (left rest : ℕ) : Type 0 where
  pub whole : sets out at (places left rest) ≡ sets first at (places n v)
  pub size : length out ≡ length first
  pub below : left ≤ n

pub placing_start : (out : List ℕ) (at n v : ℕ) → Placing out at n v out n v
placing_start out at n v = record { whole = refl; size = refl; below = le_refl n }

pub placing_next : {first out : List ℕ} {at n v left rest d : ℕ}
    → Placing first at n v out left rest → 0 < left → d ≡ 48 + rest % 10 → Placing first at n v (set out (at + (left - 1)) d) (left - 1) (rest / 10)
placing_next {left = zero} p h e = absurd (omega arith)
placing_next {first = first} {out = out} {at = at} {left = suc l} {rest = rest} p h e =
    let same : suc l - 1 ≡ l = omega arith in
    record {
      whole = rw (same, e, ← places_step l rest out at) p.whole;
      size = rw length-set p.size;
      below = omega (arith, p.below);
    }

pub placing_end : {first out : List ℕ} {at n v left rest : ℕ} → Placing first at n v out left rest → left ≤ 0 → out ≡ sets first at (places n v)
unfolding places
placing_end {left = zero} p h = p.whole
placing_end {left = suc l} p h = absurd (omega arith)

-- ---- a word that was copied

pub word-put : {before word now : List ℕ} {at : ℕ} → at + length word ≤ length before → now ≡ word → Put (length word) before at word (put_mid at (at + length word - at) before now) (at + length word)
word-put {before} {word} {now} {at} h e =
    let same : length word ≡ at + length word - at = omega arith in
    record {
      written = put_mid-paste at (at + length word - at) before now word (length word) e same refl ∙ rw (take_all (length word) word (le_refl (length word))) (sym (sets-eq word before at h));
      ends = refl;
      short = le_refl (length word);
    }

-- ---- a number, once its digits are counted and written

pub decimal-put : (v : ℕ) {n at : ℕ} {before after : List ℕ} → n ≡ length (decimal v) → after ≡ sets before at (places n v) → Put 20 before at (decimal v) after (at + n)
decimal-put v e w = record { written = rw (decimal-places v, ← e) w; ends = omega (arith, e); short = decimal_short v }
