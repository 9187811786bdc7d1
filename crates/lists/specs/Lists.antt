-- The local forms dense and list: what their bytes are, which bytes are accepted, and which positions they name.
-- A list is described once, over the width w of its items in bytes.
-- Assumes nothing.
use Rattle.std.specs.Prelude.{ℕ, zero, suc, ◌-◌, ◌*◌, Bool, true, false, ltb, List, [], ◌∷◌, ◌++◌, length, ◌==◌, nat_lt}
use Rattle.fields.specs.Le.{digits}
use Rattle.model.specs.Tests.{both, pick, all, tabulate}
use Rattle.model.specs.Lists.{counted, range}
use Rattle.model.specs.declared.Place.{Place}
use Rattle.search.specs.Search.{entry, find, up_to}

-- ---- dense: no bytes, every position of the span

unfoldable pub dense_accepts : List ℕ → ℕ → ℕ → Bool
dense_accepts xs span n = both (length xs == 0) (both (n == span) (counted span n))

abbrev pub dense_names : ℕ → List ℕ
dense_names n = range 0 n

-- ---- list: the positions, one after the other

unfoldable pub list_layout : ℕ → List ℕ → List ℕ
list_layout w [] = []
list_layout w (x ∷ xs) = digits w x ++ list_layout w xs

-- item i of w bytes
abbrev pub item : ℕ → List ℕ → ℕ → ℕ
item w xs = entry w xs 0 w

-- value i is below the next
unfoldable pub climbs : (ℕ → ℕ) → ℕ → Bool
climbs f i = nat_lt (f i) (f (suc i))

-- n values rise, and are below the span
unfoldable pub rises_below : (ℕ → ℕ) → ℕ → ℕ → Bool
rises_below f span n = both (all (climbs f) (n - 1)) (all (λ i. ltb (f i) span) n)

unfoldable pub list_accepts : ℕ → List ℕ → ℕ → ℕ → Bool
list_accepts w xs span n = both (length xs == n * w) (both (counted span n) (rises_below (item w xs) span n))

unfoldable pub list_names : ℕ → List ℕ → ℕ → List ℕ
list_names w xs n = tabulate (item w xs) n

-- ---- where a position stands, on any bytes: r of the values were found to be at most p
unfoldable pub place_at : (ℕ → ℕ) → ℕ → ℕ → Place
place_at f p zero = record { below = 0; present = false }
place_at f p (suc k) = pick (f k == p) (record { below = k; present = true }) (record { below = suc k; present = false })

unfoldable pub list_place : ℕ → List ℕ → ℕ → ℕ → Place
list_place w xs n p = place_at (item w xs) p (find (up_to false (item w xs) p) 0 n)
