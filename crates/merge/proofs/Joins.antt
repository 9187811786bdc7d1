-- What joining by the plain rule keeps and how it ends: cuts rise, what the segments hold together stays the same after every
-- join, and at the end no pair is admitted.
-- Assumes nothing.
use mathlib.Core.Path.{◌≡◌, refl, ap, ◌∙◌}
use mathlib.Core.Logic.{⊎_elim}
use mathlib.Core.List.{List, [], ◌∷◌}
use mathlib.Core.Bool.{Bool, false}
use Prim.Native.Nat.{ℕ, zero, suc, ◌+◌, ◌<◌, ◌≤◌}
use native.Mathlib.Nat.{zero-add, le_refl}
use native.Mathlib.Omega.{arith}
use lib.ListN.{length}
use Rattle.model.specs.Lists.{Rising, more}
use Rattle.merge.specs.Rule.{Choice, none, pair, without, cuts_from, counted, best, pairs_with, after_joins, later_offers, merged}
use Rattle.merge.proofs.Cuts.{Meet, meet_cases, meet_order, meet_middle, meet_three, without_hit, without_miss, rising_without, length_without, cuts_rising}
use Rattle.merge.proofs.Best.{Best, chosen}

-- what a choice is, with its equation
pub by_choice : {P : Type 0} (q : Choice) → (q ≡ none → P) → ((l m r : ℕ) → q ≡ pair l m r → P) → P
by_choice none n p = n refl
by_choice (pair l m r) n p = p l m r refl

module _ (adm : ℕ → ℕ → ℕ → Bool) (sav : ℕ → ℕ → ℕ → ℕ) where
  -- ---- one step

  pub join_step : (k : ℕ) (cs : List ℕ) (l m r : ℕ) → best adm sav cs ≡ pair l m r → after_joins adm sav (suc k) cs ≡ after_joins adm sav k (without m cs)
  unfolding after_joins
  join_step k cs l m r e = rw (e, after_joins)

  pub join_end : (k : ℕ) (cs : List ℕ) → best adm sav cs ≡ none → after_joins adm sav k cs ≡ cs
  unfolding after_joins
  join_end zero cs e = refl
  join_end (suc k) cs e = rw (e, after_joins)

  pub later_step : (k : ℕ) (cs : List ℕ) (l m r : ℕ) → best adm sav cs ≡ pair l m r
      → later_offers adm sav (suc k) cs ≡ pairs_with adm l r (without m cs) + later_offers adm sav k (without m cs)
  unfolding later_offers
  later_step k cs l m r e = rw (later_offers, e)

  pub later_end : (k : ℕ) (cs : List ℕ) → best adm sav cs ≡ none → later_offers adm sav k cs ≡ 0
  unfolding later_offers
  later_end zero cs e = refl
  later_end (suc k) cs e = rw (later_offers, e)

  pub best_meets : {a b : ℕ} (cs : List ℕ) (l m r : ℕ) → Rising a b cs → best adm sav cs ≡ pair l m r → Best adm sav cs l m r
  best_meets cs l m r ri e = rw e at (chosen adm sav cs ri)

  -- ---- all steps

  -- what a join keeps holds after every join
  pub joins_keep : {a b : ℕ} (P : List ℕ → Type 0) → ((cs : List ℕ) (l m r : ℕ) → Rising a b cs → Meet cs l m r → P cs → P (without m cs))
      → (k : ℕ) (cs : List ℕ) → Rising a b cs → P cs → Rising a b (after_joins adm sav k cs) × P (after_joins adm sav k cs)
  unfolding after_joins
  joins_keep P f zero cs ri h = (ri, h)
  joins_keep P f (suc k) cs ri h = by_choice (best adm sav cs)
      (λ e. rw (join_end (suc k) cs e) (ri, h))
      (λ l m r e. rw (join_step k cs l m r e) (joins_keep P f k (without m cs) (rising_without m ri) (f cs l m r ri (best_meets cs l m r ri e).meets h)))

  -- as many joins as there are cuts are enough
  joins_enough : {a b : ℕ} (k : ℕ) (cs : List ℕ) → Rising a b cs → length cs ≤ k + 2 → best adm sav (after_joins adm sav k cs) ≡ none
  unfolding after_joins
  joins_enough zero cs ri h = by_choice (best adm sav cs) (λ e. e) (λ l m r e. absurd (omega (arith, meet_three (best_meets cs l m r ri e).meets)))
  joins_enough (suc k) cs ri h = by_choice (best adm sav cs)
      (λ e. rw (join_end (suc k) cs e) e)
      (λ l m r e. rw (join_step k cs l m r e) (joins_enough k (without m cs) (rising_without m ri) (omega (arith, length_without (meet_middle (best_meets cs l m r ri e).meets)))))

  pub merged-best : {a b : ℕ} (cs : List ℕ) → Rising a b cs → best adm sav (merged adm sav cs) ≡ none
  unfolding merged
  merged-best cs ri = joins_enough (length cs) cs ri (omega arith)

  pub merged_rising : {a b : ℕ} (cs : List ℕ) → Rising a b cs → Rising a b (merged adm sav cs)
  unfolding merged
  merged_rising cs ri = (joins_keep (λ _. ℕ) (λ cs l m r ri w h. h) (length cs) cs ri 0).0

  -- when merging ends, no neighbouring pair is admitted
  pub merged_ends : {a b : ℕ} (cs : List ℕ) → Rising a b cs → (l m r : ℕ) → Meet (merged adm sav cs) l m r → adm l m r ≡ false
  merged_ends cs ri = rw (merged-best cs ri) at (chosen adm sav (merged adm sav cs) (merged_rising cs ri))

-- ---- what the segments hold

-- c adds up: what two neighbouring segments hold is what the joined one holds
abbrev pub Adds : (ℕ → ℕ → ℕ) → ℕ → Type 0
Adds c b = (l m r : ℕ) → l < m → m < r → r < b → c l r ≡ c l m + c m r

counted_none : (c : ℕ → ℕ → ℕ) (l : ℕ) → counted c (l ∷ []) ≡ 0
unfolding counted
counted_none c l = refl

counted_two : (c : ℕ → ℕ → ℕ) (l m : ℕ) (cs : List ℕ) → counted c (l ∷ m ∷ cs) ≡ c l m + counted c (m ∷ cs)
unfolding counted
counted_two c l m cs = refl

module _ {b : ℕ} (c : ℕ → ℕ → ℕ) (ad : Adds c b) where
  counted_go : {a : ℕ} (x : ℕ) (cs : List ℕ) (l m r : ℕ) → Rising a b (x ∷ cs) → Meet (x ∷ cs) l m r → counted c (x ∷ without m cs) ≡ counted c (x ∷ cs)
  counted_go x [] l m r ri w = absurd (omega (arith, meet_three w))
  counted_go x (y ∷ []) l m r ri w = absurd (omega (arith, meet_three w))
  counted_go x (y ∷ z ∷ cs) l m r (more p q (more p' q' (more p'' q'' ri))) w = ⊎_elim
      (λ e. rw (without_hit m y (z ∷ cs) e.1) (omega (arith, ad x y z (omega arith) (omega arith) q'', counted_two c x z cs, counted_two c x y (z ∷ cs), counted_two c y z cs)))
      (λ w'.
      let ih = counted_go y (z ∷ cs) l m r (more p' q' (more p'' q'' ri)) w' in
      let ny : y ≡ m → ⊥ = λ e. omega (arith, meet_order (more (le_refl y) q' (more p'' q'' ri)) w') in
      rw (without_miss m y (z ∷ cs) ny) (omega (arith, ih, counted_two c x y (without m (z ∷ cs)), counted_two c x y (z ∷ cs))))
      (meet_cases w)

  counted-without : {a : ℕ} (cs : List ℕ) (l m r : ℕ) → Rising a b cs → Meet cs l m r → counted c (without m cs) ≡ counted c cs
  counted-without [] l m r ri w = absurd (omega (arith, meet_three w))
  counted-without (x ∷ cs) l m r (more p q ri) w =
      let nx : x ≡ m → ⊥ = λ e. omega (arith, meet_order (more (le_refl x) q ri) w) in
      rw (without_miss m x cs nx) (counted_go x cs l m r (more p q ri) w)

  -- after every join, the segments hold together what they held before
  pub counted-kept : {a : ℕ} (adm : ℕ → ℕ → ℕ → Bool) (sav : ℕ → ℕ → ℕ → ℕ) (k : ℕ) (cs : List ℕ) → Rising a b cs → counted c (after_joins adm sav k cs) ≡ counted c cs
  counted-kept adm sav k cs ri =
      (joins_keep adm sav (λ ds. counted c ds ≡ counted c cs) (λ ds l m r rd w e. counted-without ds l m r rd w ∙ e) k cs ri refl).1

  -- seeds hold together what lies between the first cut and the last
  counted_seeds : (i k : ℕ) → i + suc k < b → counted c (cuts_from i (suc k)) ≡ c i (i + suc k)
  unfolding cuts_from
  counted_seeds i zero h =
      let e : suc i ≡ i + 1 = omega arith in
      omega (arith, counted_two c i (suc i) [], counted_none c (suc i), ap (c i) e)
  counted_seeds i (suc k) h =
      let e : suc i + suc k ≡ i + suc (suc k) = omega arith in
      omega (arith, counted_two c i (suc i) (cuts_from (suc (suc i)) k), counted_seeds (suc i) k (omega arith), ap (c (suc i)) e, ad i (suc i) (i + suc (suc k)) (omega arith) (omega arith) h)

-- what the seeds hold together, the segments hold, after every join
pub counted-all : (n : ℕ) (c : ℕ → ℕ → ℕ) → Adds c (suc n) → (adm : ℕ → ℕ → ℕ → Bool) (sav : ℕ → ℕ → ℕ → ℕ) → 0 < n → (k : ℕ) → counted c (after_joins adm sav k (cuts_from 0 n)) ≡ c 0 n
counted-all zero c ad adm sav z k = absurd (omega arith)
counted-all (suc n) c ad adm sav z k =
    counted-kept c ad adm sav k (cuts_from 0 (suc n)) (cuts_rising 0 (suc n) (suc (suc n)) (omega arith)) ∙ counted_seeds c ad 0 n (omega arith) ∙ ap (c 0) (zero-add (suc n))
