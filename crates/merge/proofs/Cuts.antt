-- Cuts: neighbouring ones, those that are in the list, and the list with one taken out.
-- Assumes nothing.
use mathlib.Core.Path.{◌≡◌, refl}
use mathlib.Core.Logic.{◌⊎◌, ⊎_elim, inl, inr}
use mathlib.Core.List.{List, ◌∷◌}
use Prim.Native.Nat.{ℕ, zero, suc, ◌+◌, ◌<◌, ◌≤◌}
use native.Mathlib.Omega.{arith}
use native.Mathlib.Nat.{le_refl}
use lib.ListN.{length}
use borrow.Author.Tests.{eq-eqb, ne_eqb}
use Rattle.model.specs.Lists.{Rising, none, more}
use Rattle.model.proofs.Rising.{rising_wider}
use Rattle.model.proofs.Tests.{same_or_not, pick_true, pick_false}
use Rattle.merge.specs.Rule.{without, cuts_from}

-- l, m, r stand next to each other: the segments from l to m and from m to r are a pair
pub data Meet : List ℕ → ℕ → ℕ → ℕ → Type 0 where
  here : {l m r : ℕ} {cs : List ℕ} → Meet (l ∷ m ∷ r ∷ cs) l m r
  there : {x l m r : ℕ} {cs : List ℕ} → Meet cs l m r → Meet (x ∷ cs) l m r

pub data In : List ℕ → ℕ → Type 0 where
  first : {a : ℕ} {cs : List ℕ} → In (a ∷ cs) a
  later : {x a : ℕ} {cs : List ℕ} → In cs a → In (x ∷ cs) a

pub meet_cases : {x y z l m r : ℕ} {cs : List ℕ} → Meet (x ∷ y ∷ z ∷ cs) l m r → ((x ≡ l) × (y ≡ m) × (z ≡ r)) ⊎ Meet (y ∷ z ∷ cs) l m r
meet_cases here = inl (refl, refl, refl)
meet_cases (there w) = inr w

pub in_cases : {x a : ℕ} {cs : List ℕ} → In (x ∷ cs) a → (x ≡ a) ⊎ In cs a
in_cases first = inl refl
in_cases (later w) = inr w

pub in_some : {a : ℕ} {cs : List ℕ} → In cs a → 1 ≤ length cs
in_some first = omega arith
in_some (later w) = omega arith

pub meet_order : {a b l m r : ℕ} {cs : List ℕ} → Rising a b cs → Meet cs l m r → (a ≤ l) × (l < m) × (m < r) × (r < b)
meet_order {l = l} {m = m} {r = r} (none {a = a} {b = b}) x5 = elim x5 [ ]
meet_order (more p q (more p' q' (more p'' q'' ri))) here = omega arith
meet_order (more p q ri) (there w) = omega (arith, meet_order ri w)

pub meet_left : {l m r : ℕ} {cs : List ℕ} → Meet cs l m r → In cs l
meet_left here = first
meet_left (there w) = later (meet_left w)

pub meet_middle : {l m r : ℕ} {cs : List ℕ} → Meet cs l m r → In cs m
meet_middle here = later first
meet_middle (there w) = later (meet_middle w)

pub meet_three : {l m r : ℕ} {cs : List ℕ} → Meet cs l m r → 3 ≤ length cs
meet_three here = omega arith
meet_three (there w) = omega (arith, meet_three w)

-- one cut taken out

pub without_hit : (m c : ℕ) (cs : List ℕ) → c ≡ m → without m (c ∷ cs) ≡ cs
unfolding without
without_hit m c cs e = pick_true _ _ (eq-eqb c m e)

pub without_miss : (m c : ℕ) (cs : List ℕ) → (c ≡ m → ⊥) → without m (c ∷ cs) ≡ c ∷ without m cs
unfolding without
without_miss m c cs e = pick_false _ _ (ne_eqb c m e)

pub in_without : {m a : ℕ} {cs : List ℕ} → In cs a → (a ≡ m → ⊥) → In (without m cs) a
in_without {m} {a} (first {cs = cs}) ne = rw (without_miss m a cs ne) first
in_without {m} (later {x = x} {cs = cs} w) ne = ⊎_elim
    (λ e. rw (without_hit m x cs e) w)
    (λ e. rw (without_miss m x cs e) (later (in_without w ne)))
    (same_or_not x m)

pub rising_without : {a b : ℕ} {cs : List ℕ} (m : ℕ) → Rising a b cs → Rising a b (without m cs)
unfolding without
rising_without m none = none
rising_without {b = b} m (more {x = x} {xs = cs} p q ri) = ⊎_elim
    (λ e. rw (without_hit m x cs e) (rising_wider (omega arith) (le_refl b) ri))
    (λ e. rw (without_miss m x cs e) (more p q (rising_without m ri)))
    (same_or_not x m)

pub length_without : {m : ℕ} {cs : List ℕ} → In cs m → length cs ≡ suc (length (without m cs))
length_without {m} (first {cs = cs}) = rw (without_hit m m cs refl)
length_without {m} (later {x = x} {cs = cs} w) = ⊎_elim
    (λ e. rw (without_hit m x cs e))
    (λ ne. rw (without_miss m x cs ne) (omega (arith, length_without w)))
    (same_or_not x m)

-- the cuts of the start

pub cuts_rising : (i k b : ℕ) → i + k < b → Rising i b (cuts_from i k)
unfolding cuts_from
cuts_rising i zero b h = more {a = i} {b = b} {x = i} (omega arith) (omega arith) none
cuts_rising i (suc k) b h = more {a = i} {b = b} {x = i} (omega arith) (omega arith) (cuts_rising (suc i) k b (omega arith))

pub cuts-length : (i k : ℕ) → length (cuts_from i k) ≡ suc k
unfolding cuts_from
cuts-length i zero = refl
cuts-length i (suc k) = omega (arith, cuts-length (suc i) k)

pub cuts_in : (i k a : ℕ) → i ≤ a → a ≤ i + k → In (cuts_from i k) a
unfolding cuts_from
cuts_in i zero a p q = let e : i ≡ a = omega arith in rw e first
cuts_in i (suc k) a p q = ⊎_elim (λ e. rw e first) (λ ne. later (cuts_in (suc i) k a (omega arith) (omega arith))) (same_or_not i a)

pub cuts_meet : (i k l m r : ℕ) → Meet (cuts_from i k) l m r → (m ≡ l + 1) × (r ≡ l + 2)
unfolding cuts_from
cuts_meet i zero l m r w = absurd (omega (arith, meet_three w))
cuts_meet i (suc zero) l m r w = absurd (omega (arith, meet_three w))
cuts_meet i (suc (suc zero)) l m r w = ⊎_elim (λ q. omega (arith, q.0, q.1, q.2)) (λ w'. cuts_meet (suc i) (suc zero) l m r w') (meet_cases w)
cuts_meet i (suc (suc (suc k))) l m r w = ⊎_elim (λ q. omega (arith, q.0, q.1, q.2)) (λ w'. cuts_meet (suc i) (suc (suc k)) l m r w') (meet_cases w)
