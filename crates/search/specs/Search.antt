-- The binary search, over an abstract test, and what it finds.
-- Assumes nothing.
use Rattle.std.specs.Prelude.{◌≡◌, Bool, true, false, cond, List, ℕ, zero, suc, ◌+◌, ◌-◌, ◌*◌, ◌/◌, ◌<◌, ◌≤◌, ltb, leb}
use Rattle.fields.specs.Le.{le}

abbrev pub mid : ℕ → ℕ → ℕ
mid lo hi = lo + (hi - lo) / 2

-- the search on [lo, hi), with k turns at most. A `let` waits, so that a computed search takes as many turns as the code
unfoldable pub bsearch : (ℕ → Bool) → ℕ → ℕ → ℕ → ℕ
bsearch t zero lo hi = lo
bsearch t (suc k) lo hi =
    let m = mid lo hi in
    let r = bsearch t k (cond (t m) (m + 1) lo) (cond (t m) hi m) in
    cond (ltb lo hi) r lo

-- the search on [lo, hi) to its end: hi - lo turns are enough. It has a meaning for any test
unfoldable pub find : (ℕ → Bool) → ℕ → ℕ → ℕ
find t lo hi = bsearch t (hi - lo) lo hi

-- once the test fails it fails to the end
abbrev pub Falling : (ℕ → Bool) → ℕ → Type 0
Falling t n = (i j : ℕ) → i ≤ j → j < n → t j ≡ true → t i ≡ true

-- r parts [0, n): the test holds below r and fails from r on
pub record Cut (t : ℕ → Bool) (n r : ℕ) : Type 0 where
  pub within : r ≤ n
  pub below : (i : ℕ) → i < r → t i ≡ true
  pub from : (i : ℕ) → r ≤ i → i < n → t i ≡ false

-- field i of a table of w-byte numbers
unfoldable pub entry : ℕ → List ℕ → ℕ → ℕ → ℕ → ℕ
entry w xs base stride i = le w xs (base + i * stride)

-- the most that field i may be: key or, where gaps are counted, key + i
unfoldable pub allowed : Bool → ℕ → ℕ → ℕ
allowed false key i = key
allowed true key i = key + i

-- the test of field i. With gaps it says that at most key of the numbers below f i are missing from f
unfoldable pub up_to : Bool → (ℕ → ℕ) → ℕ → ℕ → Bool
up_to gaps f key i = leb (f i) (allowed gaps key i)
