-- Windows [lo i, hi i) of which each ends where the next starts or before: then each ends before all that follow.
-- Assumes nothing.
use mathlib.Core.Path.{◌≡◌}
use mathlib.Core.Logic.{⊎_elim}
use Prim.Native.Nat.{ℕ, zero, suc, ◌<◌, ◌≤◌}
use native.Mathlib.Nat.{eq-or-lt_of_le}
use native.Mathlib.Omega.{arith}
use Rattle.model.proofs.Tests.{last_or_before}

module _ (lo hi : ℕ → ℕ) (n : ℕ) (wide : (i : ℕ) → i < n → lo i ≤ hi i) (next : (i : ℕ) → suc i < n → hi i ≤ lo (suc i)) where
  pub windows_apart : (i j : ℕ) → i < j → j < n → hi i ≤ lo j
  windows_apart i zero l h = absurd (omega arith)
  windows_apart i (suc j) l h =
      ⊎_elim (λ (q : i ≡ j). rw q (next j h)) (λ (m : i < j). omega (arith, windows_apart i j m (omega arith), wide j (omega arith), next j h)) (last_or_before l)

  pub windows_level : (i j : ℕ) → i ≤ j → j < n → lo i ≤ lo j
  windows_level i j l h =
      ⊎_elim (λ (q : i ≡ j). rw q (omega arith)) (λ (m : i < j). omega (arith, wide i (omega arith), windows_apart i j m h)) (eq-or-lt_of_le l)
