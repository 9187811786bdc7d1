-- What each call makes of the words h: the keys afterwards, as often as each occurs, their order, and the words behind them as they were.
-- Assumes nothing.
use Rattle.std.specs.Prelude.{◌≡◌, List, ℕ, ◌+◌, ◌*◌, ◌-◌, ◌<◌, ◌≤◌, get_or}
use Rattle.queue.specs.Keys.{key, one, occ, Heap}

-- h' is h, a queue of n keys, with k put in
pub record Pushed (h : List ℕ) (n k : ℕ) (h' : List ℕ) : Type 0 where
  pub heap : Heap h' (n + 1)
  pub keys : (x : ℕ) → occ (key h') (n + 1) x ≡ occ (key h) n x + one k x
  pub rest : (a : ℕ) → (n + 1) * 2 ≤ a → get_or h' a 0 ≡ get_or h a 0

-- h' is h, a queue of n keys, with r taken out, which is one of its keys and the largest
pub record Popped (h : List ℕ) (n r : ℕ) (h' : List ℕ) : Type 0 where
  pub largest : (j : ℕ) → j < n → key h j ≤ r
  pub heap : Heap h' (n - 1)
  pub keys : (x : ℕ) → occ (key h') (n - 1) x + one r x ≡ occ (key h) n x
  pub rest : (a : ℕ) → (n - 1) * 2 ≤ a → get_or h' a 0 ≡ get_or h a 0

-- h' is h, a queue of m keys, with k for the key at 0
pub record Settled (h : List ℕ) (m k : ℕ) (h' : List ℕ) : Type 0 where
  pub heap : Heap h' m
  pub keys : (x : ℕ) → occ (key h') m x + one (key h 0) x ≡ occ (key h) m x + one k x
  pub rest : (a : ℕ) → m * 2 ≤ a → get_or h' a 0 ≡ get_or h a 0

-- r is c or the next place, below m, and no other of the two has a larger key
pub record Larger (h : List ℕ) (c m r : ℕ) : Type 0 where
  pub low : c ≤ r
  pub high : r ≤ c + 1
  pub within : r < m
  pub first : key h c ≤ key h r
  pub second : c + 1 < m → key h (c + 1) ≤ key h r
