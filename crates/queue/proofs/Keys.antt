-- Laws of keys over a function f from places to keys: what one store changes, and how often a key occurs then.
-- Assumes nothing.
use mathlib.Core.Path.{◌≡◌, refl, sym, ap, ◌∙◌}
use mathlib.Core.Logic.{⊎_elim}
use mathlib.Core.List.{List}
use Prim.Native.Nat.{ℕ, zero, suc, ◌+◌, ◌*◌, ◌/◌, ◌%◌, ◌<◌, ◌≤◌}
use native.Mathlib.Omega.{arith}
use native.Mathlib.Nat.{eq-or-lt_of_le, le_of_suc-le-suc, not-suc-le-zero}
use native.Mathlib.Numerals.{add-one}
use lib.ListN.{length, get_or, set, length-set}
use lib.Seq.{get_or-set_same, get_or-set_other}
use borrow.Author.Tests.{eq-eqb, ne_eqb}
use Rattle.model.specs.Tests.{pick}
use Rattle.model.proofs.Tests.{same_or_not}
use Rattle.queue.specs.Keys.{key, put, one, occ}

pub by_eq : {P : Type 0} (j i : ℕ) → (j ≡ i → P) → ((j ≡ i → ⊥) → P) → P
by_eq j i y n = ⊎_elim y n (same_or_not j i)

-- g is f with v at i
pub record Upd (f g : ℕ → ℕ) (i v : ℕ) : Type 0 where
  pub at : g i ≡ v
  pub else : (j : ℕ) → (j ≡ i → ⊥) → g j ≡ f j

-- a store of a key

pub put-length : (h : List ℕ) (i k : ℕ) → length (put h i k) ≡ length h
unfolding put
put-length h i k = simp length-set

-- a word that is not of key i
put_else : (h : List ℕ) (i k a : ℕ) → (a ≡ i * 2 → ⊥) → (a ≡ i * 2 + 1 → ⊥) → get_or (put h i k) a 0 ≡ get_or h a 0
unfolding put
put_else h i k a p q = get_or-set_other (set h (i * 2) (k / 4294967296)) (i * 2 + 1) a (k % 4294967296) 0 q ∙ get_or-set_other h (i * 2) a (k / 4294967296) 0 p

put_high : (h : List ℕ) (i k : ℕ) → i * 2 < length h → get_or (put h i k) (i * 2) 0 ≡ k / 4294967296
unfolding put
put_high h i k w = get_or-set_other (set h (i * 2) (k / 4294967296)) (i * 2 + 1) (i * 2) (k % 4294967296) 0 (λ e. omega arith) ∙ get_or-set_same h (i * 2) (k / 4294967296) 0 w

put_low : (h : List ℕ) (i k : ℕ) → i * 2 + 1 < length h → get_or (put h i k) (i * 2 + 1) 0 ≡ k % 4294967296
unfolding put
put_low h i k w = get_or-set_same (set h (i * 2) (k / 4294967296)) (i * 2 + 1) (k % 4294967296) 0 (simp length-set w)

pub put_upd : (h : List ℕ) (i k : ℕ) → i * 2 + 1 < length h → Upd (key h) (key (put h i k)) i k
unfolding key
put_upd h i k w = record {
  at = omega (arith, put_high h i k (omega arith), put_low h i k w);
  else = λ j ne.
      omega (arith, put_else h i k (j * 2) (λ e. ne (omega arith)) (λ e. omega arith), put_else h i k (j * 2 + 1) (λ e. omega arith) (λ e. ne (omega arith)));
}

-- words past n keys are as they were
pub put_rest : (h : List ℕ) (i k n a : ℕ) → i < n → n * 2 ≤ a → get_or (put h i k) a 0 ≡ get_or h a 0
put_rest h i k n a l w = put_else h i k a (λ e. omega arith) (λ e. omega arith)

-- how often a key occurs

pub one_same : (k : ℕ) → one k k ≡ 1
unfolding one pick
one_same k = rw (eq-eqb k k refl)

pub one_other : (k x : ℕ) → (k ≡ x → ⊥) → one k x ≡ 0
unfolding one pick
one_other k x ne = rw (ne_eqb k x ne)

pub occ_more : (f : ℕ → ℕ) (n x : ℕ) → occ f (n + 1) x ≡ occ f n x + one (f n) x
unfolding occ
occ_more f n x = rw add-one

-- a key that occurs has a place
pub occ_some : (f : ℕ → ℕ) (n x : ℕ) → 0 < occ f n x → (j : ℕ) × (j < n) × (f j ≡ x)
unfolding occ
occ_some f zero x h = absurd (omega arith)
occ_some f (suc n) x h = by_eq (f n) x
    (λ e. (n, omega arith, e))
    (λ ne. let r = occ_some f n x (omega (arith, one_other (f n) x ne)) in (r.0, omega (arith, r.1), r.2))

occ_ext : (f g : ℕ → ℕ) (n x : ℕ) → ((j : ℕ) → j < n → g j ≡ f j) → occ g n x ≡ occ f n x
unfolding occ
occ_ext f g zero x e = refl
occ_ext f g (suc n) x e =
    let a : occ g n x ≡ occ f n x = occ_ext f g n x (λ j l. e j (omega arith)) in
    let b : g n ≡ f n = e n (omega arith) in
    cc

-- a change at one place takes one key out and puts one in
pub occ_upd : {f g : ℕ → ℕ} {i v : ℕ} (n x : ℕ) → Upd f g i v → i < n → occ g n x + one (f i) x ≡ occ f n x + one v x
unfolding occ
occ_upd zero x u l = absurd (not-suc-le-zero l)
occ_upd {f} {g} {i} {v} (suc n) x u l = ⊎_elim
    (λ e.
    let a : occ g n x ≡ occ f n x = occ_ext f g n x (λ j l'. u.else j (λ q. omega arith)) in
    let b : one (g n) x ≡ one v x = ap (λ (k : ℕ). one k x) (ap g (sym e) ∙ u.at) in
    let d : one (f i) x ≡ one (f n) x = ap (λ (k : ℕ). one (f k) x) e in
    omega arith)
    (λ l'. omega (arith, occ_upd n x u l', ap (λ (k : ℕ). one k x) (u.else n (λ q. omega arith))))
    (eq-or-lt_of_le (le_of_suc-le-suc l))
