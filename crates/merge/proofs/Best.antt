-- What `best` picks: an admitted pair that no admitted pair outdoes, or none where none is admitted.
-- Assumes nothing.
use mathlib.Core.Path.{◌≡◌, refl, ◌∙◌}
use mathlib.Core.Logic.{⊎_elim}
use mathlib.Core.List.{List, [], ◌∷◌}
use mathlib.Core.Bool.{Bool, true, false}
use Prim.Native.Nat.{ℕ, ◌≤◌}
use native.Mathlib.Omega.{arith}
use lib.Dec.{leb}
use borrow.Author.Tests.{leb-true, leb-false}
use Rattle.model.specs.Tests.{pick}
use Rattle.model.specs.Lists.{Rising, more}
use Rattle.model.proofs.Rising.{rising_rest}
use Rattle.model.proofs.Tests.{never}
use Rattle.merge.specs.Rule.{Choice, none, pair, better, best}
use Rattle.merge.proofs.Cuts.{Meet, here, there, meet_cases, meet_order, meet_three}

module _ (adm : ℕ → ℕ → ℕ → Bool) (sav : ℕ → ℕ → ℕ → ℕ) where
  -- the pair is there and admitted, no admitted pair saves more, and none that saves as much is further left
  pub record Best (cs : List ℕ) (l m r : ℕ) : Type 0 where
    pub meets : Meet cs l m r
    pub ok : adm l m r ≡ true
    pub most : (a b c : ℕ) → Meet cs a b c → adm a b c ≡ true → (sav a b c ≤ sav l m r) × (sav l m r ≤ sav a b c → l ≤ a)

  abbrev pub Chosen : List ℕ → Choice → Type 0
  Chosen cs none = (a b c : ℕ) → Meet cs a b c → adm a b c ≡ false
  Chosen cs (pair l m r) = Best cs l m r

  same_sav : {x y z a b c : ℕ} → (x ≡ a) × (y ≡ b) × (z ≡ c) → sav a b c ≡ sav x y z
  same_sav q = cc

  same_adm : {x y z a b c : ℕ} → (x ≡ a) × (y ≡ b) × (z ≡ c) → adm a b c ≡ adm x y z
  same_adm q = cc

  -- the first pair beside the choice among the others
  module _ {o u x y z : ℕ} {cs : List ℕ} (ri : Rising o u (x ∷ y ∷ z ∷ cs)) where
    two : {l m r : ℕ} → adm x y z ≡ true → Best (y ∷ z ∷ cs) l m r → (t : Bool) → leb (sav l m r) (sav x y z) ≡ t → Chosen (x ∷ y ∷ z ∷ cs) (pick t (pair x y z) (pair l m r))
    unfolding pick
    two {l} {m} {r} e p true t = record {
      meets = here;
      ok = e;
      most = λ a b c w ok. ⊎_elim
          (λ q. omega (arith, same_sav q, q.0))
          (λ w'. (omega (arith, (p.most a b c w' ok).0, leb-true (sav l m r) (sav x y z) t), λ _. omega (arith, (meet_order (rising_rest ri) w').0)))
          (meet_cases w);
    }
    two {l} {m} {r} e p false t = record {
      meets = there p.meets;
      ok = p.ok;
      most = λ a b c w ok. ⊎_elim (λ q. omega (arith, same_sav q, leb-false (sav l m r) (sav x y z) t)) (λ w'. p.most a b c w' ok) (meet_cases w);
    }

    with_first : (t : Bool) → adm x y z ≡ t → (q : Choice) → Chosen (y ∷ z ∷ cs) q → Chosen (x ∷ y ∷ z ∷ cs) (better sav (pick t (pair x y z) none) q)
    unfolding better pick
    with_first true e none p = record {
      meets = here;
      ok = e;
      most = λ a b c w ok. ⊎_elim (λ q. omega (arith, same_sav q, q.0)) (λ w'. never ok (p a b c w')) (meet_cases w);
    }
    with_first false e none p = λ a b c w. ⊎_elim (λ q. same_adm q ∙ e) (λ w'. p a b c w') (meet_cases w)
    with_first true e (pair l m r) p = two e p (leb (sav l m r) (sav x y z)) refl
    with_first false e (pair l m r) p = record {
      meets = there p.meets;
      ok = p.ok;
      most = λ a b c w ok. ⊎_elim (λ q. never ok (same_adm q ∙ e)) (λ w'. p.most a b c w' ok) (meet_cases w);
    }

  pub chosen : {o u : ℕ} (cs : List ℕ) → Rising o u cs → Chosen cs (best adm sav cs)
  unfolding best
  chosen [] ri = λ a b c w. absurd (omega (arith, meet_three w))
  chosen (x ∷ []) ri = λ a b c w. absurd (omega (arith, meet_three w))
  chosen (x ∷ y ∷ []) ri = λ a b c w. absurd (omega (arith, meet_three w))
  chosen (x ∷ y ∷ z ∷ cs) (more p q ri) = with_first (more p q ri) (adm x y z) refl (best adm sav (y ∷ z ∷ cs)) (chosen (y ∷ z ∷ cs) ri)
