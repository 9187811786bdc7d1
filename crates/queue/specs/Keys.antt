-- Keys in words, how often a key occurs, and the order of a queue.
-- Assumes nothing.
use Rattle.std.specs.Prelude.{List, ℕ, zero, suc, ◌+◌, ◌*◌, ◌-◌, ◌/◌, ◌%◌, ◌<◌, ◌≤◌, eqb, get_or, set}
use Rattle.model.specs.Tests.{pick}

-- key i of the words h
unfoldable pub key : List ℕ → ℕ → ℕ
key h i = get_or h (i * 2) 0 * 4294967296 + get_or h (i * 2 + 1) 0

-- the words h with k for key i
unfoldable pub put : List ℕ → ℕ → ℕ → List ℕ
put h i k = set (set h (i * 2) (k / 4294967296)) (i * 2 + 1) (k % 4294967296)

-- 1 where a is b, else 0
unfoldable pub one : ℕ → ℕ → ℕ
one a b = pick {A = ℕ} (eqb a b) 1 0

-- how often x occurs among f 0, f 1, .., f (n - 1): two queues hold the same keys where this is the same for every x
unfoldable pub occ : (ℕ → ℕ) → ℕ → ℕ → ℕ
occ f zero x = 0
occ f (suc n) x = occ f n x + one (f n) x

-- no key is above the one at its parent's place
pub record Ordered (f : ℕ → ℕ) (n : ℕ) : Type 0 where
  pub below : (j : ℕ) → 0 < j → j < n → f j ≤ f ((j - 1) / 2)

-- the first n keys of h are a queue
abbrev pub Heap : List ℕ → ℕ → Type 0
Heap h n = Ordered (key h) n
