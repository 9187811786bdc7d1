-- Rows read as numbers: as many as there are rows, and the number of each.
-- Assumes nothing.
use mathlib.Core.Path.{◌≡◌, ◌∙◌, ap}
use mathlib.Core.List.{List, [], ◌∷◌, map}
use Prim.Native.Nat.{ℕ, zero, suc, ◌<◌, ◌≤◌}
use native.Mathlib.Omega.{arith}
use lib.ListN.{length, get_or, length-map}

module _ {A : Type 0} (f : A → ℕ) (rows : List A) where
  pub inside : {i : ℕ} → i < length rows → i < length (map f rows)
  inside h = rw length-map h

  pub past : {i : ℕ} → length rows ≤ i → length (map f rows) ≤ i
  past h = rw length-map h

item_of : {A : Type 0} (f : A → ℕ) (rows : List A) (i : ℕ) {row : A} → i < length rows → row ≡ get_or rows i row → f row ≡ get_or (map f rows) i 0
item_of f [] i h e = absurd (omega arith)
item_of f (x ∷ xs) zero h e = ap f e
item_of f (x ∷ xs) (suc i) h e = item_of f xs i (omega arith) e

pub number_at : {A : Type 0} (f : A → ℕ) (rows : List A) (i : ℕ) {row : A} {r : ℕ} → i < length rows → row ≡ get_or rows i row → r ≡ f row → r ≡ get_or (map f rows) i 0
number_at f rows i h e n = n ∙ item_of f rows i h e
