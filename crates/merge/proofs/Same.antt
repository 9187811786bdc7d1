-- The plain rule asks only about pairs of its own cuts: where two admissions and savings agree on those, it ends with the same
-- segments and the same offers.
-- Assumes nothing.
use mathlib.Core.Path.{◌≡◌, refl, sym, ◌∙◌}
use mathlib.Core.List.{List, [], ◌∷◌}
use mathlib.Core.Bool.{Bool, true, false}
use Prim.Native.Nat.{ℕ, zero, suc, ◌<◌, ◌≤◌}
use native.Mathlib.Omega.{arith}
use lib.ListN.{length}
use Rattle.model.specs.Tests.{pick}
use Rattle.model.specs.Lists.{Rising, more}
use Rattle.merge.specs.Rule.{Choice, none, pair, without, cuts_from, better, best, pairs, pairs_with, after_joins, later_offers, merged, offers}
use Rattle.merge.proofs.Cuts.{meet_order, rising_without, cuts_rising}
use Rattle.merge.proofs.Joins.{by_choice, best_meets, join_step, join_end, later_step, later_end}

better-same : (sav sav' : ℕ → ℕ → ℕ → ℕ) (t : Bool) (l m r : ℕ) (q : Choice) → sav l m r ≡ sav' l m r → ((a b c : ℕ) → q ≡ pair a b c → sav a b c ≡ sav' a b c)
    → better sav (pick t (pair l m r) none) q ≡ better sav' (pick t (pair l m r) none) q
unfolding better pick
better-same sav sav' false l m r q e f = refl
better-same sav sav' true l m r none e f = refl
better-same sav sav' true l m r (pair a b c) e f = rw (e, f a b c refl)

module _ (n : ℕ) (adm adm' : ℕ → ℕ → ℕ → Bool) (sav sav' : ℕ → ℕ → ℕ → ℕ)
    (same : (l m r : ℕ) → l < m → m < r → r ≤ n → (adm l m r ≡ adm' l m r) × (sav l m r ≡ sav' l m r)) where
  first_same : {a : ℕ} (l m r : ℕ) (cs : List ℕ) → Rising a (suc n) (l ∷ m ∷ r ∷ cs) → (adm l m r ≡ adm' l m r) × (sav l m r ≡ sav' l m r)
  first_same l m r cs (more p q (more p' q' (more p'' q'' ri))) = same l m r (omega arith) (omega arith) (omega arith)

  pairs-same : {a : ℕ} (cs : List ℕ) → Rising a (suc n) cs → pairs adm cs ≡ pairs adm' cs
  unfolding pairs
  pairs-same [] ri = refl
  pairs-same (l ∷ []) ri = refl
  pairs-same (l ∷ m ∷ []) ri = refl
  pairs-same (l ∷ m ∷ r ∷ cs) (more p q ri) = rw ((first_same l m r cs (more p q ri)).0, pairs-same (m ∷ r ∷ cs) ri)

  with_same : {a : ℕ} (x y : ℕ) (cs : List ℕ) → Rising a (suc n) cs → pairs_with adm x y cs ≡ pairs_with adm' x y cs
  unfolding pairs_with
  with_same x y [] ri = refl
  with_same x y (l ∷ []) ri = refl
  with_same x y (l ∷ m ∷ []) ri = refl
  with_same x y (l ∷ m ∷ r ∷ cs) (more p q ri) = rw ((first_same l m r cs (more p q ri)).0, with_same x y (m ∷ r ∷ cs) ri)

  best-same : {a : ℕ} (cs : List ℕ) → Rising a (suc n) cs → best adm sav cs ≡ best adm' sav' cs
  unfolding best
  best-same [] ri = refl
  best-same (l ∷ []) ri = refl
  best-same (l ∷ m ∷ []) ri = refl
  best-same (l ∷ m ∷ r ∷ cs) (more p q ri) =
      let here = first_same l m r cs (more p q ri) in
      rw (here.0, best-same (m ∷ r ∷ cs) ri)
      (better-same sav sav' (adm' l m r) l m r (best adm' sav' (m ∷ r ∷ cs)) here.1 (λ a b c e.
      let o = meet_order ri (best_meets adm' sav' (m ∷ r ∷ cs) a b c ri e).meets in
      (same a b c o.1 o.2 (omega arith)).1))

  joins-same : {a : ℕ} (k : ℕ) (cs : List ℕ) → Rising a (suc n) cs → after_joins adm sav k cs ≡ after_joins adm' sav' k cs
  unfolding after_joins
  joins-same zero cs ri = refl
  joins-same (suc k) cs ri = by_choice (best adm sav cs)
      (λ e. join_end adm sav (suc k) cs e ∙ sym (join_end adm' sav' (suc k) cs (sym (best-same cs ri) ∙ e)))
      (λ l m r e. join_step adm sav k cs l m r e ∙ joins-same k (without m cs) (rising_without m ri) ∙ sym (join_step adm' sav' k cs l m r (sym (best-same cs ri) ∙ e)))

  later_same : {a : ℕ} (k : ℕ) (cs : List ℕ) → Rising a (suc n) cs → later_offers adm sav k cs ≡ later_offers adm' sav' k cs
  unfolding later_offers
  later_same zero cs ri = refl
  later_same (suc k) cs ri = by_choice (best adm sav cs)
      (λ e. later_end adm sav (suc k) cs e ∙ sym (later_end adm' sav' (suc k) cs (sym (best-same cs ri) ∙ e)))
      (λ l m r e.
      let rest = with_same l r (without m cs) (rising_without m ri) in
      let more' = later_same k (without m cs) (rising_without m ri) in
      omega (arith, later_step adm sav k cs l m r e, later_step adm' sav' k cs l m r (sym (best-same cs ri) ∙ e)))

  pub merged-same : merged adm sav (cuts_from 0 n) ≡ merged adm' sav' (cuts_from 0 n)
  unfolding merged
  merged-same = joins-same (length (cuts_from 0 n)) (cuts_from 0 n) (cuts_rising 0 n (suc n) (omega arith))

  pub offers-same : offers adm sav (cuts_from 0 n) ≡ offers adm' sav' (cuts_from 0 n)
  unfolding offers
  offers-same =
      let ri = cuts_rising 0 n (suc n) (omega arith) in
      rw (pairs-same (cuts_from 0 n) ri, later_same (length (cuts_from 0 n)) (cuts_from 0 n) ri)
