-- Sums f 0 + f 1 + .. + f (n - 1): what they are at least, and the lengths of lists one after the other.
-- Assumes nothing.
use mathlib.Core.Path.{◌≡◌, refl, ◌∙◌}
use mathlib.Core.Logic.{⊎_elim}
use mathlib.Core.List.{List}
use Prim.Native.Nat.{ℕ, zero, suc, ◌+◌, ◌*◌, ◌<◌, ◌≤◌}
use native.Mathlib.Nat.{eq-or-lt_of_le, mul-suc}
use native.Mathlib.Omega.{arith}
use lib.ListN.{length}
use Rattle.model.specs.Tests.{flat, total}
use Rattle.model.proofs.Tests.{flat_length_step}

-- where each is at least 1, the sum is at least their number
pub total-least : (f : ℕ → ℕ) (n : ℕ) → ((i : ℕ) → i < n → 1 ≤ f i) → n ≤ total f n
unfolding total
total-least f zero h = omega arith
total-least f (suc n) h = omega (arith, total-least f n (λ i l. h i (omega arith)), h n (omega arith))

pub total-le : (f : ℕ → ℕ) (i n : ℕ) → i ≤ n → total f i ≤ total f n
unfolding total
total-le f i zero h = let e : i ≡ 0 = omega arith in rw e (omega arith)
total-le f i (suc n) h =
    ⊎_elim (λ (e : i ≡ suc n). rw e (omega arith)) (λ (l : i < suc n). omega (arith, total-le f i n (omega arith))) (eq-or-lt_of_le h)

-- what stands before i, and f i, are in the sum
pub total_within : (f : ℕ → ℕ) (i n : ℕ) → i < n → total f i + f i ≤ total f n
unfolding total
total_within f i n h = total-le f (suc i) n h

pub total_front : (f : ℕ → ℕ) (n : ℕ) → total f (suc n) ≡ f 0 + total (λ (i : ℕ). f (suc i)) n
unfolding total
total_front f zero = omega arith
total_front f (suc n) = rw (total_front f n) (omega arith)

pub total-same : (f g : ℕ → ℕ) (n : ℕ) → ((i : ℕ) → i < n → f i ≡ g i) → total f n ≡ total g n
unfolding total
total-same f g zero h = refl
total-same f g (suc n) h = rw (total-same f g n (λ i l. h i (omega arith)), h n (omega arith))

pub total_constant : (k n : ℕ) → total (λ (_ : ℕ). k) n ≡ k * n
unfolding total
total_constant k zero = omega arith
total_constant k (suc n) = rw (total_constant k n, mul-suc)

-- the length of lists one after the other
pub flat-total : {A : Type 0} (g : ℕ → List A) (c : ℕ → ℕ) (n : ℕ) → ((i : ℕ) → i < n → length (g i) ≡ c i) → length (flat g n) ≡ total c n
unfolding flat total
flat-total g c zero h = refl
flat-total g c (suc n) h = flat_length_step g n ∙ rw (flat-total g c n (λ i l. h i (omega arith)), h n (omega arith))
