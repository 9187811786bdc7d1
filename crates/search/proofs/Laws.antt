-- What the search finds: over any test, and over a test that falls.
-- Assumes nothing.
use mathlib.Core.Path.{◌≡◌, refl, sym, ◌∙◌}
use mathlib.Core.Bool.{Bool, true, false, cond}
use mathlib.Core.Logic.{⊎_elim}
use Prim.Native.Nat.{ℕ, zero, suc, ◌+◌, ◌-◌, ◌*◌, ◌/◌, ◌<◌, ◌≤◌, min}
use native.Mathlib.Nat.{eq-or-lt_of_le}
use native.Mathlib.Omega.{arith}
use lib.Dec.{leb}
use borrow.Author.Tests.{le-leb, lt-ltb, le-ltb, leb-true, leb-false}
use Rattle.model.proofs.Tests.{either, order, never}
use Rattle.search.specs.Search.{mid, bsearch, find, Falling, Cut, allowed, up_to}

-- ---- the comparison as a digit

-- no field passes 2^32: to add no more than 2^32 to the key comes to the same
pub past_all : {v : ℕ} (i key : ℕ) → v < 4294967296 → leb v (key + min i 4294967296) ≡ leb v (key + i)
past_all {v} i key h =
    ⊎_elim
    (λ l. let e : min i 4294967296 ≡ i = omega arith in rw e)
    (λ g. le-leb v (key + min i 4294967296) (omega arith) ∙ sym (le-leb v (key + i) (omega arith)))
    (order i 4294967296)

-- 1 where v is at most the bound, else 0
pub digit : {v bound q : ℕ} (b : Bool) → leb v bound ≡ b → (v ≤ bound → q ≡ 1) → (bound < v → q ≡ 0) → (q ≡ cond b 1 0) × (q ≤ 1)
digit {v} {bound} true e one none = (one (leb-true v bound e), omega (arith, one (leb-true v bound e)))
digit {v} {bound} false e one none = (none (leb-false v bound e), omega (arith, none (leb-false v bound e)))

-- a test `f i ≤ key` falls where f does not
pub falls_level : (f : ℕ → ℕ) (key n : ℕ) → ((i j : ℕ) → i ≤ j → j < n → f i ≤ f j) → Falling (up_to false f key) n
unfolding up_to allowed
falls_level f key n m i j p q e = le-leb (f i) key (omega (arith, m i j p q, leb-true (f j) key e))

-- a test `f i ≤ key + i` falls where f rises strictly
pub falls_gaps : (f : ℕ → ℕ) (key n : ℕ) → ((i j : ℕ) → i < j → j < n → f i + (j - i) ≤ f j) → Falling (up_to true f key) n
unfolding up_to allowed
falls_gaps f key n m i j p q e =
    ⊎_elim (λ r. rw r e) (λ l. le-leb (f i) (key + i) (omega (arith, m i j l q, leb-true (f j) (key + j) e))) (eq-or-lt_of_le p)

-- the test of field i, as numbers
pub at_most : (f : ℕ → ℕ) (key i : ℕ) → up_to false f key i ≡ true → f i ≤ key
unfolding up_to allowed
at_most f key i e = leb-true (f i) key e

pub above : (f : ℕ → ℕ) (key i : ℕ) → up_to false f key i ≡ false → key < f i
unfolding up_to allowed
above f key i e = leb-false (f i) key e

module _ (t : ℕ → Bool) where
  -- nothing left
  done : (k lo hi : ℕ) → hi ≤ lo → bsearch t k lo hi ≡ lo
  unfolding bsearch
  done zero lo hi h = refl
  done (suc k) lo hi h = rw (le-ltb lo hi h)

  -- one turn
  turn : (k lo hi : ℕ) → lo < hi → bsearch t (suc k) lo hi ≡ bsearch t k (cond (t (mid lo hi)) (mid lo hi + 1) lo) (cond (t (mid lo hi)) hi (mid lo hi))
  unfolding bsearch
  turn k lo hi h = rw (lt-ltb lo hi h)

  up : (k lo hi : ℕ) → lo < hi → t (mid lo hi) ≡ true → bsearch t (suc k) lo hi ≡ bsearch t k (mid lo hi + 1) hi
  up k lo hi h e = turn k lo hi h ∙ rw e

  down : (k lo hi : ℕ) → lo < hi → t (mid lo hi) ≡ false → bsearch t (suc k) lo hi ≡ bsearch t k lo (mid lo hi)
  down k lo hi h e = turn k lo hi h ∙ rw e

  -- turns to spare change nothing
  spare : (k j lo hi : ℕ) → hi ≤ lo + k → hi ≤ lo + j → bsearch t k lo hi ≡ bsearch t j lo hi
  spare zero j lo hi p q = done zero lo hi (omega arith) ∙ sym (done j lo hi (omega arith))
  spare (suc k) zero lo hi p q = done (suc k) lo hi (omega arith) ∙ sym (done zero lo hi (omega arith))
  spare (suc k) (suc j) lo hi p q =
      ⊎_elim
      (λ l.
      ⊎_elim
      (λ e. up k lo hi l e ∙ spare k j (mid lo hi + 1) hi (omega arith) (omega arith) ∙ sym (up j lo hi l e))
      (λ e. down k lo hi l e ∙ spare k j lo (mid lo hi) (omega arith) (omega arith) ∙ sym (down j lo hi l e))
      (either (t (mid lo hi))))
      (λ g. done (suc k) lo hi g ∙ sym (done (suc j) lo hi g))
      (order lo hi)

  -- ---- the turns of the code

  pub find_done : (lo hi : ℕ) → hi ≤ lo → find t lo hi ≡ lo
  unfolding find
  find_done lo hi h = done (hi - lo) lo hi h

  more : (lo hi : ℕ) → find t lo hi ≡ bsearch t (suc (hi - lo)) lo hi
  unfolding find
  more lo hi = spare (hi - lo) (suc (hi - lo)) lo hi (omega arith) (omega arith)

  pub find_up : (lo hi : ℕ) → lo < hi → t (mid lo hi) ≡ true → find t lo hi ≡ find t (mid lo hi + 1) hi
  unfolding find
  find_up lo hi h e = more lo hi ∙ up (hi - lo) lo hi h e ∙ spare (hi - lo) (hi - (mid lo hi + 1)) (mid lo hi + 1) hi (omega arith) (omega arith)

  pub find_down : (lo hi : ℕ) → lo < hi → t (mid lo hi) ≡ false → find t lo hi ≡ find t lo (mid lo hi)
  unfolding find
  find_down lo hi h e = more lo hi ∙ down (hi - lo) lo hi h e ∙ spare (hi - lo) (mid lo hi - lo) lo (mid lo hi) (omega arith) (omega arith)

  -- whatever the test, the answer is within
  bounded : (k lo hi : ℕ) → lo ≤ hi → bsearch t k lo hi ≤ hi
  unfolding bsearch
  bounded zero lo hi o = o
  bounded (suc k) lo hi o =
      ⊎_elim
      (λ l.
      ⊎_elim
      (λ e. rw (up k lo hi l e) (bounded k (mid lo hi + 1) hi (omega arith)))
      (λ e. rw (down k lo hi l e) (omega (arith, bounded k lo (mid lo hi) (omega arith))))
      (either (t (mid lo hi))))
      (λ g. rw (done (suc k) lo hi g) o)
      (order lo hi)

  pub find_within : (n : ℕ) → find t 0 n ≤ n
  unfolding find
  find_within n = bounded (n - 0) 0 n (omega arith)

  -- whatever the test, it passed just before the answer and failed at it: no order is asked of the table
  edges : (k lo hi n : ℕ) → hi ≤ lo + k → lo ≤ hi → hi ≤ n → (0 < lo → t (lo - 1) ≡ true) → (hi < n → t hi ≡ false)
      → (0 < bsearch t k lo hi → t (bsearch t k lo hi - 1) ≡ true) × (bsearch t k lo hi < n → t (bsearch t k lo hi) ≡ false)
  edges zero lo hi n m o w b a =
      let q : lo ≡ hi = omega arith in
      rw (done zero lo hi (omega arith)) (b, λ l. rw q (a (rw q at l)))
  edges (suc k) lo hi n m o w b a =
      ⊎_elim
      (λ l.
      ⊎_elim
      (λ e. rw (up k lo hi l e) (edges k (mid lo hi + 1) hi n (omega arith) (omega arith) w (λ z. let c : mid lo hi + 1 - 1 ≡ mid lo hi = omega arith in rw c e) a))
      (λ e. rw (down k lo hi l e) (edges k lo (mid lo hi) n (omega arith) (omega arith) (omega arith) b (λ z. e)))
      (either (t (mid lo hi))))
      (λ g. let q : lo ≡ hi = omega arith in rw (done (suc k) lo hi g) (b, λ l. rw q (a (rw q at l))))
      (order lo hi)

  pub find_hit : (n : ℕ) → 0 < find t 0 n → t (find t 0 n - 1) ≡ true
  unfolding find
  find_hit n h = (edges (n - 0) 0 n n (omega arith) (omega arith) (omega arith) (λ z. absurd (omega arith)) (λ z. absurd (omega arith))).0 h

  pub find_miss : (n : ℕ) → find t 0 n < n → t (find t 0 n) ≡ false
  unfolding find
  find_miss n h = (edges (n - 0) 0 n n (omega arith) (omega arith) (omega arith) (λ z. absurd (omega arith)) (λ z. absurd (omega arith))).1 h

  -- ---- what it finds where the test falls

  falls : (n : ℕ) → Falling t n → (i j : ℕ) → i ≤ j → j < n → t i ≡ false → t j ≡ false
  falls n f i j p q e = ⊎_elim (λ h. never (f i j p q h) e) (λ h. h) (either (t j))

  met : (n lo hi : ℕ) → hi ≤ lo → lo ≤ hi → hi ≤ n → ((i : ℕ) → i < lo → t i ≡ true) → ((i : ℕ) → hi ≤ i → i < n → t i ≡ false) → Cut t n lo
  met n lo hi g o w b a = record { within = omega arith; below = b; from = λ i p q. a i (omega arith) q }

  cut : (n : ℕ) → Falling t n → (k lo hi : ℕ) → hi ≤ lo + k → lo ≤ hi → hi ≤ n → ((i : ℕ) → i < lo → t i ≡ true) → ((i : ℕ) → hi ≤ i → i < n → t i ≡ false) → Cut t n (bsearch t k lo hi)
  cut n f zero lo hi m o w b a = rw (done zero lo hi (omega arith)) (met n lo hi (omega arith) o w b a)
  cut n f (suc k) lo hi m o w b a =
      ⊎_elim
      (λ l.
      ⊎_elim
      (λ e. rw (up k lo hi l e) (cut n f k (mid lo hi + 1) hi (omega arith) (omega arith) w (λ i p. f i (mid lo hi) (omega arith) (omega arith) e) a))
      (λ e. rw (down k lo hi l e) (cut n f k lo (mid lo hi) (omega arith) (omega arith) (omega arith) b (λ i p q. falls n f (mid lo hi) i p q e)))
      (either (t (mid lo hi))))
      (λ g. rw (done (suc k) lo hi g) (met n lo hi g o w b a))
      (order lo hi)

  pub find_cut : (n : ℕ) → Falling t n → Cut t n (find t 0 n)
  unfolding find
  find_cut n f = cut n f (n - 0) 0 n (omega arith) (omega arith) (omega arith) (λ i p. absurd (omega arith)) (λ i p q. absurd (omega arith))

  -- ---- the code's loop: lo and hi close in, and the answer stays
  pub record Searching (n lo hi : ℕ) : Type 0 where
    pub ordered : lo ≤ hi
    pub inside : hi ≤ n
    pub same : find t lo hi ≡ find t 0 n

  searching_up : (n lo hi : ℕ) → Searching n lo hi → lo < hi → t (mid lo hi) ≡ true → Searching n (mid lo hi + 1) hi
  searching_up n lo hi s l e = record { ordered = omega arith; inside = s.inside; same = sym (find_up lo hi l e) ∙ s.same }

  searching_down : (n lo hi : ℕ) → Searching n lo hi → lo < hi → t (mid lo hi) ≡ false → Searching n lo (mid lo hi)
  searching_down n lo hi s l e = record { ordered = omega arith; inside = omega (arith, s.inside); same = sym (find_down lo hi l e) ∙ s.same }

  moved : (n : ℕ) {lo hi lo' hi' : ℕ} → lo' ≡ lo → hi' ≡ hi → Searching n lo hi → Searching n lo' hi'
  moved n p q s = rw (p, q) s

  -- one turn without a jump: up is 1 or 0
  pub searching_next : (n lo len : ℕ) {up : ℕ} → Searching n lo (lo + len) → 0 < len → up ≡ cond (t (lo + len / 2)) 1 0
      → Searching n (lo + up * (len / 2 + 1)) (lo + up * (len / 2 + 1) + (len - up) / 2)
  searching_next n lo len {up} s l e =
      let m : mid lo (lo + len) ≡ lo + len / 2 = omega arith in
      ⊎_elim
      (λ (h : t (lo + len / 2) ≡ true).
      let one : up ≡ 1 = e ∙ rw h refl in
      rw one (moved n (omega arith) (omega arith) (searching_up n lo (lo + len) s (omega arith) (rw m h))))
      (λ (h : t (lo + len / 2) ≡ false).
      let none : up ≡ 0 = e ∙ rw h refl in
      rw none (moved n (omega arith) (omega arith) (searching_down n lo (lo + len) s (omega arith) (rw m h))))
      (either (t (lo + len / 2)))

  pub searching_end : (n lo hi : ℕ) → Searching n lo hi → hi ≤ lo → lo ≡ find t 0 n
  searching_end n lo hi s g = sym (find_done lo hi g) ∙ s.same

-- ---- the answer of a call

pub found_within : (t : ℕ → Bool) (n : ℕ) {found : ℕ} → found ≡ find t 0 n → found ≤ n
found_within t n e = rw e (find_within t n)

-- on any table, the field before the answer is one of the n, and it is at most the key

module _ (f : ℕ → ℕ) (n key : ℕ) {found : ℕ} (e : found ≡ find (up_to false f key) 0 n) (s : found ≡ 0 → ⊥) where
  pub found_inside : found - 1 < n
  found_inside = omega (arith, found_within (up_to false f key) n e, s)

  pub found_hit : f (found - 1) ≤ key
  found_hit = at_most f key (found - 1) (rw e (find_hit (up_to false f key) n (omega (arith, s))))
