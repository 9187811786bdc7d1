-- Where a position stands: what the code answers of the search, and that it is right of the list.
-- Assumes nothing.
use Rattle.std.proofs.Common.{◌≡◌, ℕ, zero, suc, ◌-◌, ◌<◌, ◌≤◌, Bool, true, false, eqb, ltb, length, get_or, refl, sym, ◌∙◌, ⊎_elim, eq-or-lt_of_le, arith, eq-eqb, ne_eqb}
use Rattle.std.specs.Int.{from_bool}
use native.Mathlib.Nat.{sub-zero}
use Rattle.model.specs.declared.Place.{Place}
use Rattle.model.specs.Tests.{pick, tabulate}
use Rattle.model.specs.Lists.{Rising, below, has, place_of}
use Rattle.model.proofs.Tests.{either, same_or_not, pick_true, pick_false, length-tabulate, get_or-tabulate}
use Rattle.model.proofs.Rising.{rising_strict}
use Rattle.model.proofs.Standing.{below_cut, below_at, has_at, has_index}
use Rattle.search.specs.Search.{find, up_to, Cut}
use Rattle.search.proofs.Laws.{find_cut, falls_level, at_most, above}
use Rattle.lists.specs.Lists.{place_at}

-- ---- the code's answers: the search's answer k and, past 0, the value v before it

-- the value before k is p or not
told : (t : Bool) (k : ℕ) → ◌≡◌ {A = Place} (record { below = k - from_bool t; present = t }) (pick t (record { below = k - 1; present = true }) (record { below = k; present = false }))
unfolding pick
told true k = refl
told false k = rw sub-zero

module _ (f : ℕ → ℕ) (n p k : ℕ) (found : k ≡ find (up_to false f p) 0 n) where
  before : (j : ℕ) → 0 < j → place_at f p j ≡ pick (eqb (f (j - 1)) p) (record { below = j - 1; present = true }) (record { below = j; present = false })
  unfolding place_at
  before zero h = absurd (omega arith)
  before (suc j) h = let e : suc j - 1 ≡ j = omega arith in rw e

  pub found_none : {t : Bool} {d : ℕ} → k ≤ 0 → t ≡ ltb 0 k → d ≡ from_bool t → record { below = k - d; present = t } ≡ place_at f p (find (up_to false f p) 0 n)
  unfolding place_at
  found_none h e q = let z : k ≡ 0 = omega arith in rw (q, e, ← found, z)

  pub found_some : {t : Bool} {v d : ℕ} → 0 < k → v ≡ f (k - 1) → t ≡ eqb v p → d ≡ from_bool t → record { below = k - d; present = t } ≡ place_at f p (find (up_to false f p) 0 n)
  found_some h r e q = rw (q, e, r, ← found, before k h) (told (eqb (f (k - 1)) p) k)

-- ---- against the list of the values

module _ (f : ℕ → ℕ) (n : ℕ) {a b : ℕ} (r : Rising a b (tabulate f n)) (p : ℕ) where
  strict : (i j : ℕ) → i < j → j < n → f i < f j
  strict i j l h =
      let s = rising_strict r i j l (omega (arith, length-tabulate f n)) in
      rw (get_or-tabulate f n i 0 (omega arith), get_or-tabulate f n j 0 h) at s

  level : (i j : ℕ) → i ≤ j → j < n → f i ≤ f j
  level i j l h = ⊎_elim (λ q. rw q (omega arith)) (λ m. omega (arith, strict i j m h)) (eq-or-lt_of_le l)

  module _ {k : ℕ} (c : Cut (up_to false f p) n k) where
    -- no value of the k that are at most p is p
    module _ (under : (i : ℕ) → i < k → f i < p) where
      stands : below (tabulate f n) p ≡ k
      stands =
          let size = length-tabulate f n in
          below_cut (tabulate f n) p k (omega (arith, c.within))
          (λ i l. rw (get_or-tabulate f n i 0 (omega (arith, c.within))) (under i l))
          (λ i g l. let h : i < n = omega arith in rw (get_or-tabulate f n i 0 h) (omega (arith, above f p i (c.from i g h))))

      absent : has (tabulate f n) p ≡ false
      absent =
          ⊎_elim
          (λ e.
          let s = rw stands at (has_index r p e) in
          let h : k < n = omega (arith, s.0, length-tabulate f n) in
          absurd (omega (arith, above f p k (c.from k (omega arith) h), sym (get_or-tabulate f n k 0 h) ∙ s.1)))
          (λ e. e)
          (either (has (tabulate f n) p))

      missed : place_of (tabulate f n) p ≡ record { below = k; present = false }
      unfolding place_of
      missed = rw (stands, absent)

  hit : (k : ℕ) → k < n → f k ≡ p → place_of (tabulate f n) p ≡ record { below = k; present = true }
  unfolding place_of
  hit k h e =
      let at : get_or (tabulate f n) k 0 ≡ p = get_or-tabulate f n k 0 h ∙ e in
      let l : k < length (tabulate f n) = omega (arith, length-tabulate f n) in
      rw (← at) (rw (below_at r k l, has_at (tabulate f n) k l))

  placed_at : (k : ℕ) → Cut (up_to false f p) n k → place_at f p k ≡ place_of (tabulate f n) p
  unfolding place_at
  placed_at zero c = sym (missed c (λ i l. absurd (omega arith)))
  placed_at (suc k) c =
      ⊎_elim
      (λ (e : f k ≡ p). pick_true _ _ (eq-eqb (f k) p e) ∙ sym (hit k c.within e))
      (λ ne.
      let under : f k < p = ⊎_elim (λ q. absurd (ne q)) (λ l. l) (eq-or-lt_of_le (at_most f p k (c.below k (omega arith)))) in
      pick_false _ _ (ne_eqb (f k) p ne) ∙ sym (missed c (λ i l. omega (arith, level i k (omega arith) c.within))))
      (same_or_not (f k) p)

  pub placed : place_at f p (find (up_to false f p) 0 n) ≡ place_of (tabulate f n) p
  placed = placed_at _ (find_cut (up_to false f p) n (falls_level f p n level))
