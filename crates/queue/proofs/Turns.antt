-- What the loops of `push` and `settle` keep, and how a pop follows from a settled key.
-- Assumes nothing.
use mathlib.Core.Path.{◌≡◌, refl, ap, ◌∙◌}
use mathlib.Core.List.{List}
use Prim.Native.Nat.{ℕ, ◌+◌, ◌*◌, ◌-◌, ◌/◌, ◌<◌, ◌≤◌}
use native.Mathlib.Omega.{arith}
use lib.ListN.{length, get_or}
use Rattle.queue.specs.Keys.{key, put, one, occ, Heap}
use Rattle.queue.specs.Steps.{Larger, Settled, Pushed, Popped}
use Rattle.queue.proofs.Keys.{by_eq, Upd, put-length, put_upd, put_rest, occ_more, occ_upd}
use Rattle.queue.proofs.Order.{Hole, Under, ordered_less, hole_first, hole_last, fill, risen, risen_under, sunk, top}

-- push: a hole at i, which k fits as far as the keys below it; all keys but the one in the hole are those given
pub record Rising (h₀ : List ℕ) (n k : ℕ) (h : List ℕ) (i : ℕ) : Type 0 where
  pub in_n : i ≤ n
  pub len : length h ≡ length h₀
  pub hole : Hole (key h) (n + 1) i
  pub under : Under (key h) (n + 1) i k
  pub keys : (x : ℕ) → occ (key h) (n + 1) x ≡ occ (key h₀) n x + one (key h i) x
  pub rest : (a : ℕ) → (n + 1) * 2 ≤ a → get_or h a 0 ≡ get_or h₀ a 0

pub rising_start : {h : List ℕ} {n : ℕ} (k : ℕ) → Heap h n → Rising h n k h n
rising_start {h} {n} k o = record {
  in_n = omega arith;
  len = refl;
  hole = hole_last (omega arith) o;
  under = λ j p q e. absurd (omega arith);
  keys = occ_more (key h) n;
  rest = λ a w. refl;
}

module _ {h₀ : List ℕ} {n k : ℕ} {h : List ℕ} {i : ℕ} {h' : List ℕ} (v : ℕ) (fit : n * 2 + 1 < length h₀) (eh : h' ≡ put h i v) (r : Rising h₀ n k h i) where
  rising_upd : Upd (key h) (key h') i v
  rising_upd = rw eh (put_upd h i v (omega (arith, r.len, r.in_n)))

  rising_keys : (x : ℕ) → occ (key h') (n + 1) x ≡ occ (key h₀) n x + one v x
  rising_keys x = omega (arith, r.keys x, occ_upd (n + 1) x rising_upd (omega (arith, r.in_n)))

  rising_rest : (a : ℕ) → (n + 1) * 2 ≤ a → get_or h' a 0 ≡ get_or h₀ a 0
  rising_rest a b = ap (λ (t : List ℕ). get_or t a 0) eh ∙ put_rest h i v (n + 1) a (omega (arith, r.in_n)) b ∙ r.rest a b

  pub rising_turn : 0 < i → v ≡ key h ((i - 1) / 2) → v < k → Rising h₀ n k h' ((i - 1) / 2)
  rising_turn z ev lv =
      let l : i < n + 1 = omega (arith, r.in_n) in
      let same : key h' ((i - 1) / 2) ≡ v = rising_upd.else ((i - 1) / 2) (λ e. omega arith) ∙ rw ev in
      record {
        in_n = omega (arith, r.in_n);
        len = ap length eh ∙ put-length h i v ∙ r.len;
        hole = risen rising_upd r.hole z l ev;
        under = λ j p q e. omega (arith, risen_under rising_upd r.hole z l ev j p q e);
        keys = λ x. rising_keys x ∙ rw same;
        rest = rising_rest;
      }

  pub rising_end : v ≡ k → (0 < i → k ≤ key h ((i - 1) / 2)) → Pushed h₀ n k h'
  rising_end ev le = record {
    heap = fill rising_upd r.hole (λ z. omega (arith, le z)) (λ j p q e. omega (arith, r.under j p q e));
    keys = λ x. rising_keys x ∙ rw ev;
    rest = rising_rest;
  }

-- settle: a hole at i, which k fits as far as the key above it
pub record Sinking (h₀ : List ℕ) (m k : ℕ) (h : List ℕ) (i : ℕ) : Type 0 where
  pub in_m : i < m
  pub len : length h ≡ length h₀
  pub hole : Hole (key h) m i
  pub over : 0 < i → k ≤ key h ((i - 1) / 2)
  pub keys : (x : ℕ) → occ (key h) m x + one (key h₀ 0) x ≡ occ (key h₀) m x + one (key h i) x
  pub rest : (a : ℕ) → m * 2 ≤ a → get_or h a 0 ≡ get_or h₀ a 0

pub sinking_start : {h : List ℕ} {m : ℕ} (k : ℕ) → 0 < m → Heap h m → Sinking h m k h 0
sinking_start k z o = record {
  in_m = z;
  len = refl;
  hole = hole_first o;
  over = λ p. absurd (omega arith);
  keys = λ x. refl;
  rest = λ a w. refl;
}

-- the keys below a place are at most the larger one
pub larger_under : {h : List ℕ} {i m c : ℕ} → Larger h (i * 2 + 1) m c → (k : ℕ) → key h c ≤ k → Under (key h) m i k
larger_under {h} {i} b k l j p q e = by_eq j (i * 2 + 1)
    (λ ej. omega (arith, ap (key h) ej, b.first))
    (λ nej. let ej : j ≡ i * 2 + 1 + 1 = omega arith in omega (arith, ap (key h) ej, b.second (omega arith)))

module _ {h₀ : List ℕ} {m k : ℕ} {h : List ℕ} {i : ℕ} {h' : List ℕ} (v : ℕ) (fit : m * 2 ≤ length h₀) (eh : h' ≡ put h i v) (r : Sinking h₀ m k h i) where
  sinking_upd : Upd (key h) (key h') i v
  sinking_upd = rw eh (put_upd h i v (omega (arith, r.len, r.in_m)))

  sinking_keys : (x : ℕ) → occ (key h') m x + one (key h₀ 0) x ≡ occ (key h₀) m x + one v x
  sinking_keys x = omega (arith, r.keys x, occ_upd m x sinking_upd r.in_m)

  sinking_rest : (a : ℕ) → m * 2 ≤ a → get_or h' a 0 ≡ get_or h₀ a 0
  sinking_rest a b = ap (λ (t : List ℕ). get_or t a 0) eh ∙ put_rest h i v m a r.in_m b ∙ r.rest a b

  pub sinking_turn : {c : ℕ} → Larger h (i * 2 + 1) m c → v ≡ key h c → k < v → Sinking h₀ m k h' c
  sinking_turn {c} b ev lv =
      let pc : (c - 1) / 2 ≡ i = omega (arith, b.low, b.high) in
      let same : key h' c ≡ v = sinking_upd.else c (λ e. omega (arith, b.low)) ∙ rw ev in
      record {
        in_m = b.within;
        len = ap length eh ∙ put-length h i v ∙ r.len;
        hole = sunk sinking_upd r.hole c pc (omega (arith, b.low)) b.within ev (larger_under b (key h c) (omega arith));
        over = λ _. omega (arith, ap (key h') pc, sinking_upd.at);
        keys = λ x. sinking_keys x ∙ rw same;
        rest = sinking_rest;
      }

  pub sinking_end : v ≡ k → Under (key h) m i k → Settled h₀ m k h'
  sinking_end ev le = record {
    heap = fill sinking_upd r.hole (λ z. omega (arith, r.over z)) (λ j p q e. omega (arith, le j p q e));
    keys = λ x. sinking_keys x ∙ rw ev;
    rest = sinking_rest;
  }

-- the last key, settled in the place of the first: a pop
pub popped : {h : List ℕ} {n r k : ℕ} {h' : List ℕ} → 0 < n → Heap h n → r ≡ key h 0 → k ≡ key h (n - 1) → Settled h (n - 1) k h' → Popped h n r h'
popped {h} {n} {r} {k} z o er ek s = record {
  largest = λ j q. omega (arith, top o j q);
  heap = s.heap;
  keys = λ x.
      let a : occ (key h) n x ≡ occ (key h) (n - 1) x + one (key h (n - 1)) x = ap (λ (t : ℕ). occ (key h) t x) (omega arith) ∙ occ_more (key h) (n - 1) x in
      omega (arith, s.keys x, ap (λ (y : ℕ). one y x) ek, ap (λ (y : ℕ). one y x) er);
  rest = s.rest;
}

-- the only key taken: nothing is to be settled
pub popped_one : {h : List ℕ} {n r : ℕ} → 0 < n → n - 1 ≡ 0 → Heap h n → r ≡ key h 0 → Popped h n r h
unfolding occ
popped_one {h} {n} {r} z e o er = record {
  largest = λ j q. omega (arith, top o j q);
  heap = ordered_less (n - 1) (omega arith) o;
  keys = λ x.
      let en : n ≡ 0 + 1 = omega arith in
      let a : occ (key h) n x ≡ occ (key h) (0 + 1) x = ap (λ (t : ℕ). occ (key h) t x) en in
      let b : occ (key h) (n - 1) x ≡ 0 = ap (λ (t : ℕ). occ (key h) t x) e in
      omega (arith, occ_more (key h) 0 x, ap (λ (y : ℕ). one y x) er);
  rest = λ a q. refl;
}
