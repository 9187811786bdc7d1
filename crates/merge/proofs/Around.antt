-- The offers after a join: the admitted pairs that contain the joined segment are the one to its left and the one to its right.
-- Assumes nothing.
use mathlib.Core.Path.{◌≡◌, refl, sym, ap, ◌∙◌}
use mathlib.Core.Logic.{◌⊎◌, ⊎_elim, inl, inr}
use mathlib.Core.List.{List, [], ◌∷◌}
use mathlib.Core.Bool.{Bool, true}
use Prim.Native.Nat.{ℕ, ◌+◌, ◌<◌}
use native.Mathlib.Nat.{le_refl}
use native.Mathlib.Omega.{arith}
use lib.Dec.{ltb}
use borrow.Author.Tests.{eq-eqb, ne_eqb, lt-ltb, le-ltb}
use Rattle.model.specs.Tests.{both, pick}
use Rattle.model.specs.Lists.{Rising, more}
use Rattle.links.specs.Links.{Chain, end, link}
use Rattle.merge.specs.Rule.{one_if, contains, pairs_with}
use Rattle.merge.proofs.Cuts.{Meet, here, there, In, first, later, in_cases, in_some, meet_order}
use Rattle.merge.proofs.Links.{Linked, chain_next}
use Rattle.merge.proofs.Offers.{contains_not, not_counted, with_none}

contains_first : (x y l m r : ℕ) → l ≡ x → m ≡ y → contains x y l m r ≡ true
unfolding contains both pick
contains_first x y l m r p q = rw (eq-eqb l x p, eq-eqb m y q)

contains_second : (x y l m r : ℕ) → (l ≡ x → ⊥) → m ≡ x → r ≡ y → contains x y l m r ≡ true
unfolding contains both pick
contains_second x y l m r p q s = rw (ne_eqb l x p, eq-eqb m x q, eq-eqb r y s)

counted_as : (t u : Bool) → t ≡ true → one_if (both t u) ≡ one_if u
unfolding both
counted_as t u e = rw e

module _ (adm : ℕ → ℕ → ℕ → Bool) where
  -- the pair to the right of the segment from l to r
  abbrev pub right_of : (ℕ → ℕ) → ℕ → ℕ → ℕ
  right_of nx l r = one_if (both (ltb 0 (nx r)) (adm l r (nx r)))

  right_is_lem : (nx : ℕ → ℕ) (l r z : ℕ) → nx r ≡ z → 0 < z → right_of nx l r ≡ one_if (adm l r z)
  right_is_lem nx l r z e h = rw e (counted_as (ltb 0 z) (adm l r z) (lt-ltb 0 z h))

  -- the segment is the first one
  at_first : {nx : ℕ → ℕ} {o b : ℕ} (l r : ℕ) (t : List ℕ) → Rising o b (l ∷ r ∷ t) → Chain nx (r ∷ t) → pairs_with adm l r (l ∷ r ∷ t) ≡ right_of nx l r
  unfolding pairs_with
  at_first {nx} l r [] ri (end e) = sym (not_counted (ltb 0 (nx r)) (adm l r (nx r)) (le-ltb 0 (nx r) (omega arith)))
  at_first {nx} l r (z ∷ t) (more p q (more p' q' (more p'' q'' ri))) (link e ch) =
      omega (arith, counted_as (contains l r l r z) (adm l r z) (contains_first l r l r z refl refl), with_none adm l r (r ∷ z ∷ t) (more p' q' (more p'' q'' ri)) (omega arith), right_is_lem nx l r z e (omega arith))

  with_step : (x y l m r : ℕ) (cs : List ℕ) → pairs_with adm x y (l ∷ m ∷ r ∷ cs) ≡ one_if (both (contains x y l m r) (adm l m r)) + pairs_with adm x y (m ∷ r ∷ cs)
  unfolding pairs_with
  with_step x y l m r cs = refl

  -- x is the first cut of cs
  abbrev Found : (ℕ → ℕ) → ℕ → ℕ → List ℕ → ℕ → Type 0
  Found nx l r cs x = ((x ≡ l) × (pairs_with adm l r cs ≡ right_of nx l r)) ⊎ ((p : ℕ) × Meet cs p l r × (pairs_with adm l r cs ≡ one_if (adm p l r) + right_of nx l r))

  found : {nx : ℕ → ℕ} {o b l r : ℕ} (x : ℕ) (t : List ℕ) → Rising o b (x ∷ t) → Chain nx (x ∷ t) → In (x ∷ t) l → nx l ≡ r → 0 < r → Found nx l r (x ∷ t) x
  found x [] ri (end e) first h z = absurd (omega arith)
  found x [] ri ch (later w) h z = absurd (omega (arith, in_some w))
  found {r = r} x (y ∷ t) ri (link e ch) first h z = let er = sym e ∙ h in inl (refl, rw (← er) (at_first x y t ri ch))
  found {nx} x (y ∷ []) ri (link e (end e')) (later w) h z = ⊎_elim (λ q. absurd (omega (arith, ap nx q))) (λ w'. absurd (omega (arith, in_some w'))) (in_cases w)
  found {nx} {l = l} {r} x (y ∷ u ∷ t) (more p q (more p' q' (more p'' q'' ri))) (link e (link e' ch)) (later w) h z = ⊎_elim
      (λ f.
      let er : u ≡ r = sym e' ∙ ap nx f.0 ∙ h in
      let one : one_if (adm x y u) ≡ one_if (adm x l r) = rw (f.0, er) in
      inr (
        x,
        rw (← f.0, ← er) here,
        omega (arith, with_step l r x y u t, counted_as (contains l r x y u) (adm x y u) (contains_second l r x y u (λ i. omega (arith, f.0)) f.0 er), f.1),
      ))
      (λ f.
      let o = meet_order (more (le_refl y) q' (more p'' q'' ri)) f.1 in
      inr (
        f.0,
        there {l = f.0} f.1,
        omega (arith, with_step l r x y u t, not_counted (contains l r x y u) (adm x y u) (contains_not l r x y u (λ i. omega arith) (λ i. omega arith)), f.2),
      ))
      (found y (u ∷ t) (more p' q' (more p'' q'' ri)) (link e' ch) w h z)

  -- the pairs that contain the segment from l to r, where the first cut is 0 and P is the cut before l
  pub around : {n : ℕ} {nx : ℕ → ℕ} {t : List ℕ} (l r P : ℕ) → Linked n nx (0 ∷ t) → In (0 ∷ t) l → nx l ≡ r → 0 < r → ((p : ℕ) → nx p ≡ l → 0 < l → P ≡ p)
      → pairs_with adm l r (0 ∷ t) ≡ one_if (both (ltb 0 l) (adm P l r)) + right_of nx l r
  around {t = t} l r P k w e z before = ⊎_elim
      (λ f. omega (arith, not_counted (ltb 0 l) (adm P l r) (le-ltb 0 l (omega (arith, f.0))), f.1))
      (λ f.
      let zl : 0 < l = omega (arith, meet_order k.rising f.1) in
      let ep : P ≡ f.0 = before f.0 (chain_next k.chain f.1).0 zl in
      let one : one_if (adm P l r) ≡ one_if (adm f.0 l r) = rw ep in
      omega (arith, counted_as (ltb 0 l) (adm P l r) (lt-ltb 0 l zl), f.2))
      (found 0 t k.rising k.chain w e z)
