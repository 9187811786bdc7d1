-- The workspace of n seeds: for each cut from 0 to n a record of eight words, and behind them the queue.
-- Assumes nothing.
use Rattle.std.specs.Prelude.{◌≡◌, Bool, List, ℕ, ◌+◌, ◌*◌, ◌<◌, eqb, get_or, set, take, drop}
use Rattle.model.specs.Tests.{both}
use Rattle.stats.specs.declared.Stats.{Stats}

-- where the queue starts
abbrev pub base : ℕ → ℕ
base n = n * 8 + 8

abbrev pub records : ℕ → List ℕ → List ℕ
records n w = take (base n) w

abbrev pub waiting : ℕ → List ℕ → List ℕ
waiting n w = drop (base n) w

-- word k of the record of the cut x
unfoldable pub field : List ℕ → ℕ → ℕ → ℕ
field t x k = get_or t (x * 8 + k) 0

-- the cut after x, where a segment starts at x, else 0
abbrev pub next : List ℕ → ℕ → ℕ
next t x = field t x 0

-- the cut before x
abbrev pub prev : List ℕ → ℕ → ℕ
prev t x = field t x 1

-- the statistics of the segment that starts at x; words 6 and 7 are to spare
unfoldable pub stat_at : List ℕ → ℕ → Stats
stat_at t x = record { first = field t x 2; last = field t x 3; count = field t x 4; runs = field t x 5 }

-- the offer of these cuts is not stale
unfoldable pub is_live : List ℕ → ℕ → ℕ → ℕ → Bool
is_live t l m r = both (eqb (next t l) m) (eqb (next t m) r)

-- what is written

unfoldable pub put : List ℕ → ℕ → ℕ → ℕ → List ℕ
put t x k v = set t (x * 8 + k) v

unfoldable pub put_stat : List ℕ → ℕ → Stats → List ℕ
put_stat t x s = put (put (put (put t x 2 s.first) x 3 s.last) x 4 s.count) x 5 s.runs

-- the segments that meet at m joined, s their statistics
unfoldable pub linked : ℕ → ℕ → ℕ → Stats → List ℕ → List ℕ
linked l m r s t = put_stat (put (put (put t l 0 r) m 0 0) r 1 l) l s

-- each seed is a segment; t₀ are the records before
pub record Started (n : ℕ) (t₀ t : List ℕ) : Type 0 where
  pub ends : (x : ℕ) → x < n → next t x ≡ x + 1
  pub end : next t n ≡ 0
  pub backs : (x : ℕ) → x < n → prev t (x + 1) ≡ x
  pub stats : (x : ℕ) → stat_at t x ≡ stat_at t₀ x
