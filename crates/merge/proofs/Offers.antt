-- How many offers there are: at most 3(n - 1) for n seeds.
-- Assumes nothing.
use mathlib.Core.Path.{◌≡◌, refl}
use mathlib.Core.Logic.{⊎_elim}
use mathlib.Core.List.{List, [], ◌∷◌}
use mathlib.Core.Bool.{Bool, true, false}
use Prim.Native.Nat.{ℕ, zero, suc, ◌*◌, ◌-◌, ◌<◌, ◌≤◌}
use native.Mathlib.Nat.{le_refl}
use native.Mathlib.Omega.{arith}
use lib.ListN.{length}
use borrow.Author.Tests.{ne_eqb}
use Rattle.model.specs.Tests.{both, pick}
use Rattle.model.specs.Lists.{Rising, more}
use Rattle.model.proofs.Tests.{same_or_not}
use Rattle.merge.specs.Rule.{without, cuts_from, one_if, contains, pairs, pairs_with, best, later_offers, offers}
use Rattle.merge.proofs.Cuts.{meet_middle, meet_three, rising_without, length_without, cuts_rising, cuts-length}
use Rattle.merge.proofs.Joins.{by_choice, best_meets, later_step, later_end}

pub one_most : (t : Bool) → one_if t ≤ 1
unfolding one_if pick
one_most true = omega arith
one_most false = omega arith

-- a pair that starts and meets elsewhere does not contain the segment from x on
pub contains_not : (x y l m r : ℕ) → (l ≡ x → ⊥) → (m ≡ x → ⊥) → contains x y l m r ≡ false
unfolding contains both pick
contains_not x y l m r p q = rw (ne_eqb l x p, ne_eqb m x q)

pub not_counted : (t u : Bool) → t ≡ false → one_if (both t u) ≡ 0
unfolding one_if both pick
not_counted t u e = rw e

module _ (adm : ℕ → ℕ → ℕ → Bool) where
  -- the pairs that contain the segment from x to y, where the cuts are above x, from x on, or any
  pub with_none : {a b : ℕ} (x y : ℕ) (cs : List ℕ) → Rising a b cs → x < a → pairs_with adm x y cs ≡ 0
  unfolding pairs_with
  with_none x y [] ri h = refl
  with_none x y (l ∷ []) ri h = refl
  with_none x y (l ∷ m ∷ []) ri h = refl
  with_none x y (l ∷ m ∷ r ∷ cs) (more p q (more p' q' ri)) h =
      omega (arith, not_counted (contains x y l m r) (adm l m r) (contains_not x y l m r (λ e. omega arith) (λ e. omega arith)), with_none x y (m ∷ r ∷ cs) (more p' q' ri) (omega arith))

  with_one : {a b : ℕ} (x y : ℕ) (cs : List ℕ) → Rising a b cs → x ≤ a → pairs_with adm x y cs ≤ 1
  unfolding pairs_with
  with_one x y [] ri h = omega arith
  with_one x y (l ∷ []) ri h = omega arith
  with_one x y (l ∷ m ∷ []) ri h = omega arith
  with_one x y (l ∷ m ∷ r ∷ cs) (more p q ri) h = omega (arith, one_most (both (contains x y l m r) (adm l m r)), with_none x y (m ∷ r ∷ cs) ri (omega arith))

  pub with_two : {a b : ℕ} (x y : ℕ) (cs : List ℕ) → Rising a b cs → pairs_with adm x y cs ≤ 2
  unfolding pairs_with
  with_two x y [] ri = omega arith
  with_two x y (l ∷ []) ri = omega arith
  with_two x y (l ∷ m ∷ []) ri = omega arith
  with_two x y (l ∷ m ∷ r ∷ cs) (more p q (more p' q' ri)) = ⊎_elim
      (λ e. omega (arith, one_most (both (contains x y l m r) (adm l m r)), with_one x y (m ∷ r ∷ cs) (more (le_refl m) q' ri) (omega arith)))
      (λ ne. ⊎_elim
      (λ e. omega (arith, one_most (both (contains x y l m r) (adm l m r)), with_none x y (m ∷ r ∷ cs) (more p' q' ri) (omega arith)))
      (λ ne'. omega (arith, not_counted (contains x y l m r) (adm l m r) (contains_not x y l m r ne' ne), with_two x y (m ∷ r ∷ cs) (more p' q' ri)))
      (same_or_not l x))
      (same_or_not m x)

  pairs_most : (cs : List ℕ) → pairs adm cs ≤ length cs - 2
  unfolding pairs
  pairs_most [] = omega arith
  pairs_most (l ∷ []) = omega arith
  pairs_most (l ∷ m ∷ []) = omega arith
  pairs_most (l ∷ m ∷ r ∷ cs) = omega (arith, one_most (adm l m r), pairs_most (m ∷ r ∷ cs))

  module _ (sav : ℕ → ℕ → ℕ → ℕ) where
    later_most : {a b : ℕ} (k : ℕ) (cs : List ℕ) → Rising a b cs → later_offers adm sav k cs ≤ 2 * (length cs - 2)
    unfolding later_offers
    later_most zero cs ri = omega arith
    later_most (suc k) cs ri = by_choice (best adm sav cs)
        (λ e. omega (arith, later_end adm sav (suc k) cs e))
        (λ l m r e.
        let w = (best_meets adm sav cs l m r ri e).meets in
        omega (arith, later_step adm sav k cs l m r e, with_two l r (without m cs) (rising_without m ri), later_most k (without m cs) (rising_without m ri), length_without (meet_middle w), meet_three w))

    pub offers_most : (n : ℕ) → offers adm sav (cuts_from 0 n) ≤ 3 * (n - 1)
    unfolding offers
    offers_most n = omega (arith, cuts-length 0 n, pairs_most (cuts_from 0 n), later_most (length (cuts_from 0 n)) (cuts_from 0 n) (cuts_rising 0 n (suc n) (omega arith)))
