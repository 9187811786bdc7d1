-- The table of ends as a function: `nx x` is the cut after the cut x, and 0 where x is no cut or the last one.
-- Assumes nothing.
use mathlib.Core.Path.{◌≡◌, refl, sym, ap, ◌∙◌}
use mathlib.Core.Logic.{⊎_elim}
use mathlib.Core.List.{List, [], ◌∷◌}
use Prim.Native.Nat.{ℕ, suc, ◌<◌, ◌≤◌}
use native.Mathlib.Nat.{le_refl}
use native.Mathlib.Omega.{arith}
use Rattle.model.specs.Lists.{Rising, more}
use Rattle.model.proofs.Tests.{same_or_not}
use Rattle.links.specs.Links.{Chain, end, link}
use Rattle.merge.specs.Rule.{without}
use Rattle.merge.proofs.Cuts.{Meet, here, there, In, first, later, in_some, meet_cases, meet_order, meet_left, meet_three, without_hit, without_miss, in_without, rising_without}

pub record Linked (n : ℕ) (nx : ℕ → ℕ) (cs : List ℕ) : Type 0 where
  pub rising : Rising 0 (suc n) cs
  pub chain : Chain nx cs
  pub only : (a : ℕ) → 0 < nx a → In cs a

-- ---- what the table says of a pair, and back

pub chain_next : {nx : ℕ → ℕ} {cs : List ℕ} {a b c : ℕ} → Chain nx cs → Meet cs a b c → (nx a ≡ b) × (nx b ≡ c)
chain_next (end e) w = absurd (omega (arith, meet_three w))
chain_next (link p (link q ch)) here = (p, q)
chain_next (link p ch) (there w) = chain_next ch w

-- a cut with a cut after it
next_after_lem : {nx : ℕ → ℕ} {n o a : ℕ} {cs : List ℕ} → Rising o (suc n) cs → Chain nx cs → In cs a → 0 < nx a → (a < nx a) × (nx a ≤ n)
next_after_lem {nx = nx} {n = n} {o = o} {a = a} ri (end e) (later w) h = elim w [ ]
next_after_lem ri (end e) first h = absurd (omega arith)
next_after_lem (more p q (more p' q' ri)) (link e ch) first h = omega arith
next_after_lem (more p q ri) (link e ch) (later w) h = next_after_lem ri ch w h

pub next_order : {n : ℕ} {nx : ℕ → ℕ} {cs : List ℕ} → Linked n nx cs → (a : ℕ) → 0 < nx a → (a < nx a) × (nx a ≤ n)
next_order k a h = next_after_lem k.rising k.chain (k.only a h) h

chain_meets : {nx : ℕ → ℕ} {cs : List ℕ} {a b c : ℕ} → Chain nx cs → In cs a → nx a ≡ b → nx b ≡ c → 0 < b → 0 < c → Meet cs a b c
chain_meets (end e) first p q zb zc = absurd (omega arith)
chain_meets {nx} (link e (end e')) first p q zb zc = absurd (omega (arith, ap nx (sym e ∙ p)))
chain_meets {nx} (link e (link e' ch)) first p q zb zc =
    let eb = sym e ∙ p in
    let ec = sym e' ∙ ap nx eb ∙ q in
    rw (← eb, ← ec) here
chain_meets (end e) (later w) p q zb zc = absurd (omega (arith, in_some w))
chain_meets (link e ch) (later w) p q zb zc = there (chain_meets ch w p q zb zc)

pub next_meets : {n : ℕ} {nx : ℕ → ℕ} {cs : List ℕ} {a b c : ℕ} → Linked n nx cs → nx a ≡ b → nx b ≡ c → 0 < b → 0 < c → Meet cs a b c
next_meets {a = a} k p q zb zc = chain_meets k.chain (k.only a (omega arith)) p q zb zc

-- a cut above 0 has a cut before it
cut_before : {nx : ℕ → ℕ} {o a : ℕ} {cs : List ℕ} → Chain nx (o ∷ cs) → In (o ∷ cs) a → (o ≡ a → ⊥) → (p : ℕ) × (nx p ≡ a)
cut_before ch first ne = absurd (ne refl)
cut_before (end e) (later w) ne = absurd (omega (arith, in_some w))
cut_before {a = a} (link {x = x} {y = y} e ch) (later w) ne = ⊎_elim (λ q. (x, e ∙ q)) (λ ny. cut_before ch w ny) (same_or_not y a)

-- and a table of the cuts before says which
pub linked-before : {n : ℕ} {nx : ℕ → ℕ} {cs : List ℕ} (pv : ℕ → ℕ) → Linked n nx (0 ∷ cs) → ((a b : ℕ) → nx a ≡ b → 0 < b → pv b ≡ a) → (l : ℕ) → In (0 ∷ cs) l → 0 < l → nx (pv l) ≡ l
linked-before pv k back l w z = let p = cut_before k.chain w (λ e. omega arith) in rw (back p.0 l p.1 z) p.1

-- ---- a join

-- nx' is nx with the segments that meet at m joined
pub record Joined (nx nx' : ℕ → ℕ) (l m r : ℕ) : Type 0 where
  pub left : nx' l ≡ r
  pub gone : nx' m ≡ 0
  pub else : (j : ℕ) → (j ≡ l → ⊥) → (j ≡ m → ⊥) → nx' j ≡ nx j

module _ {nx nx' : ℕ → ℕ} {l m r : ℕ} (u : Joined nx nx' l m r) where
  chain_above : {o b : ℕ} {cs : List ℕ} → Rising o b cs → l < o → m < o → Chain nx cs → Chain nx' cs
  chain_above (Rattle.model.specs.Lists.none {a = a} {b = b}) hl hm x13 = elim x13 [ ]
  chain_above (more p q ri) hl hm (end {x = x} e) = end (u.else x (λ t. omega arith) (λ t. omega arith) ∙ e)
  chain_above (more p q ri) hl hm (link {x = x} e ch) = link (u.else x (λ t. omega arith) (λ t. omega arith) ∙ e) (chain_above ri (omega arith) (omega arith) ch)

  chain_without : {o b : ℕ} (cs : List ℕ) → Rising o b cs → Chain nx cs → Meet cs l m r → Chain nx' (without m cs)
  chain_without [] ri ch w = absurd (omega (arith, meet_three w))
  chain_without (x ∷ []) ri ch w = absurd (omega (arith, meet_three w))
  chain_without (x ∷ y ∷ []) ri ch w = absurd (omega (arith, meet_three w))
  chain_without (x ∷ y ∷ z ∷ cs) (more p q (more p' q' (more p'' q'' ri))) (link e (link e' ch)) w = ⊎_elim
      (λ t.
      rw (without_miss m x (y ∷ z ∷ cs) (λ i. omega (arith, t.1)), without_hit m y (z ∷ cs) t.1)
      (link (ap nx' t.0 ∙ u.left ∙ sym t.2) (chain_above (more p'' q'' ri) (omega (arith, t.0)) (omega (arith, t.1)) ch)))
      (λ w'.
      let o = meet_order (more (le_refl y) q' (more p'' q'' ri)) w' in
      let ey : without m (y ∷ z ∷ cs) ≡ y ∷ without m (z ∷ cs) = without_miss m y (z ∷ cs) (λ i. omega arith) in
      let ih = chain_without (y ∷ z ∷ cs) (more p' q' (more p'' q'' ri)) (link e' ch) w' in
      rw (without_miss m x (y ∷ z ∷ cs) (λ i. omega arith), ey) (link (u.else x (λ i. omega arith) (λ i. omega arith) ∙ e) (rw ey at ih)))
      (meet_cases w)

  pub linked_join : {n : ℕ} {cs : List ℕ} → Linked n nx cs → Meet cs l m r → Linked n nx' (without m cs)
  linked_join {cs = cs} k w = record {
    rising = rising_without m k.rising;
    chain = chain_without cs k.rising k.chain w;
    only = λ a p. ⊎_elim
        (λ e. absurd (omega (arith, ap nx' e, u.gone)))
        (λ ne. in_without (⊎_elim
        (λ e. rw e (meet_left w))
        (λ nl. k.only a (omega (arith, u.else a nl ne)))
        (same_or_not a l)) ne)
        (same_or_not a m);
  }
