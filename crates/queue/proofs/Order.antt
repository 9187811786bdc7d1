-- The order of a queue with a hole at one place, over a function f from places to keys: how a hole opens, rises, sinks and is filled.
-- Assumes nothing.
use mathlib.Core.Path.{◌≡◌, ap}
use Prim.Native.Nat.{ℕ, zero, suc, ◌-◌, ◌/◌, ◌<◌, ◌≤◌}
use native.Mathlib.Omega.{arith}
use native.Mathlib.Nat.{le_of_eq, le_trans}
use Rattle.queue.specs.Keys.{Ordered}
use Rattle.queue.proofs.Keys.{by_eq, Upd}

-- the order but for the place i; what stands below the hole is at most what stands above it
pub record Hole (f : ℕ → ℕ) (n i : ℕ) : Type 0 where
  pub others : (j : ℕ) → 0 < j → j < n → (j ≡ i → ⊥) → ((j - 1) / 2 ≡ i → ⊥) → f j ≤ f ((j - 1) / 2)
  pub across : (j : ℕ) → 0 < j → j < n → (j - 1) / 2 ≡ i → 0 < i → f j ≤ f ((i - 1) / 2)

-- each key below the place i is at most k
abbrev pub Under : (ℕ → ℕ) → ℕ → ℕ → ℕ → Type 0
Under f n i k = (j : ℕ) → 0 < j → j < n → (j - 1) / 2 ≡ i → f j ≤ k

pub ordered_less : {f : ℕ → ℕ} {n : ℕ} (m : ℕ) → m ≤ n → Ordered f n → Ordered f m
ordered_less m l o = record { below = λ j p q. o.below j p (omega arith) }

-- a hole opens at the first place
pub hole_first : {f : ℕ → ℕ} {n : ℕ} → Ordered f n → Hole f n 0
hole_first o = record { others = λ j p q _ _. o.below j p q; across = λ j p q e z. absurd (omega arith) }

-- a hole opens behind the last place
pub hole_last : {f : ℕ → ℕ} {n m : ℕ} → m ≤ suc n → Ordered f n → Hole f m n
hole_last l o = record { others = λ j p q ne _. o.below j p (omega arith); across = λ j p q e z. absurd (omega arith) }

module _ {f g : ℕ → ℕ} {n i v : ℕ} (u : Upd f g i v) (o : Hole f n i) where
  -- a key that fits fills the hole
  pub fill : (0 < i → v ≤ f ((i - 1) / 2)) → Under f n i v → Ordered g n
  fill up down = record {
    below = λ j p q. by_eq j i
        (λ e. omega (arith, ap g e, u.at, ap g (ap (λ (k : ℕ). (k - 1) / 2) e), u.else ((i - 1) / 2) (λ r. omega arith), up (omega arith)))
        (λ ne. by_eq ((j - 1) / 2) i
        (λ e. omega (arith, u.else j ne, ap g e, u.at, down j p q e))
        (λ ne'. omega (arith, u.else j ne, u.else ((j - 1) / 2) ne', o.others j p q ne ne')));
  }

  -- the hole rises: the key above it comes down into it
  module _ (z : 0 < i) (l : i < n) (ev : v ≡ f ((i - 1) / 2)) where
    pub risen_under : Under g n ((i - 1) / 2) v
    risen_under j p q e = by_eq j i
        (λ ei. omega (arith, ap g ei, u.at))
        (λ nei. omega (arith, u.else j nei, ap f e, o.others j p q nei (λ r. omega arith)))

    pub risen : Hole g n ((i - 1) / 2)
    risen = record {
      others = λ j p q ne ne'. by_eq j i
          (λ e. absurd (ne' (ap (λ (k : ℕ). (k - 1) / 2) e)))
          (λ nei. by_eq ((j - 1) / 2) i
          (λ e. omega (arith, u.else j nei, ap g e, u.at, o.across j p q e z))
          (λ nei'. omega (arith, u.else j nei, u.else ((j - 1) / 2) nei', o.others j p q nei nei')));
      across = λ j p q e z'.
          let a : g (((i - 1) / 2 - 1) / 2) ≡ f (((i - 1) / 2 - 1) / 2) = u.else (((i - 1) / 2 - 1) / 2) (λ r. omega arith) in
          let b : f ((i - 1) / 2) ≤ f (((i - 1) / 2 - 1) / 2) = o.others ((i - 1) / 2) z' (omega arith) (λ r. omega arith) (λ r. omega arith) in
          omega (arith, risen_under j p q e);
    }

  -- the hole sinks: the larger key c below it comes up into it
  pub sunk : (c : ℕ) → (c - 1) / 2 ≡ i → 0 < c → c < n → v ≡ f c → Under f n i (f c) → Hole g n c
  sunk c pc z l ev big = record {
    others = λ j p q ne ne'. by_eq j i
        (λ e. omega (arith, ap g e, u.at, ap g (ap (λ (k : ℕ). (k - 1) / 2) e), u.else ((i - 1) / 2) (λ r. omega arith), o.across c z l pc (omega arith)))
        (λ nei. by_eq ((j - 1) / 2) i
        (λ e. omega (arith, u.else j nei, ap g e, u.at, big j p q e))
        (λ nei'. omega (arith, u.else j nei, u.else ((j - 1) / 2) nei', o.others j p q nei nei')));
    across = λ j p q e z'.
        omega (arith, ap g pc, u.at, u.else j (λ r. omega arith), ap f e, o.others j p q (λ r. omega arith) (λ r. omega arith));
  }

-- the key at 0 is the largest: from a place j ≤ b, at most b steps lead up to it
top_go : {f : ℕ → ℕ} {n : ℕ} → Ordered f n → (b j : ℕ) → j ≤ b → j < n → f j ≤ f 0
top_go {f} o zero j l q = le_of_eq (ap f (omega arith))
top_go {f} o (suc b) j l q = by_eq j 0
    (λ e. le_of_eq (ap f e))
    (λ ne. le_trans (o.below j (omega arith) q) (top_go o b ((j - 1) / 2) (omega arith) (omega arith)))

pub top : {f : ℕ → ℕ} {n : ℕ} → Ordered f n → (j : ℕ) → j < n → f j ≤ f 0
top o j q = top_go o j j (omega arith) q
