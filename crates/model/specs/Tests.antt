-- Tests that compute, and what a loop from 0 to n builds. Each recurses at the end of its range, so that one turn of a
-- forward loop is one step of the definition. No `abbrev`: a goal keeps the names, and `_` finds their arguments.
-- Assumes nothing.
use Rattle.std.specs.Prelude.{Bool, true, false, List, [], ◌∷◌, ◌++◌, ℕ, zero, suc, ◌+◌}

-- both tests hold
unfoldable pub both : Bool → Bool → Bool
both true b = b
both false b = false

-- the first where the test holds, else the second
unfoldable pub pick : {A : Type 0} → Bool → A → A → A
pick true a b = a
pick false a b = b

-- the test holds at every i < n
unfoldable pub all : (ℕ → Bool) → ℕ → Bool
all t zero = true
all t (suc n) = both (all t n) (t n)

-- f 0, f 1, .., f (n - 1)
unfoldable pub tabulate : {A : Type 0} → (ℕ → A) → ℕ → List A
tabulate f zero = []
tabulate f (suc n) = tabulate f n ++ (f n ∷ [])

-- the lists g 0, g 1, .., g (n - 1), one after the other
unfoldable pub flat : {A : Type 0} → (ℕ → List A) → ℕ → List A
flat g zero = []
flat g (suc n) = flat g n ++ g n

-- f 0 + f 1 + .. + f (n - 1)
unfoldable pub total : (ℕ → ℕ) → ℕ → ℕ
total f zero = 0
total f (suc n) = total f n + f n
