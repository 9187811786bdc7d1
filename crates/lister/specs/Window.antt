-- The bytes at hand: what a slide leaves, and where a turn of the listing stands.
-- Assumes nothing.
use Rattle.std.specs.Prelude.{◌≡◌, Bool, true, false, List, ℕ, zero, suc, ◌+◌, ◌-◌, ◌≤◌, ◌<◌, length, get_or, take, drop}
use Rattle.listing.specs.declared.records.Next.{Next}
use Rattle.listing.specs.declared.records.Next.TheVariants.{Record, Broken, More}
use Rattle.listing.specs.Records.{next_of}
use Rattle.lister.specs.declared.Stand.{Stand}

-- the bytes of a whole record, with those of its length, and 0 for anything else
unfoldable pub whole_of : Next → ℕ
whole_of (Record n) = n + 4
whole_of Broken = 0
whole_of More = 0

-- n is that of the record in front of xs, so it lies inside
pub record Whole (xs : List ℕ) (n : ℕ) : Type 0 where
  pub is : n ≡ whole_of (next_of xs)
  pub inside : n ≤ length xs

-- whether what stands in front is no record that waits for its bytes
unfoldable pub stops_of : Next → Bool
stops_of (Record n) = true
stops_of Broken = true
stops_of More = false

-- the bytes lo to hi stand in front
pub record Slid (before : List ℕ) (lo hi : ℕ) (after : List ℕ) : Type 0 where
  pub size : length after ≡ length before
  pub moved : (i : ℕ) → i < hi - lo → get_or after i 0 ≡ get_or before (lo + i) 0

-- the bytes of xs from lo to hi
unfoldable pub part : List ℕ → ℕ → ℕ → List ℕ
part xs lo hi = take (hi - lo) (drop lo xs)

-- where `count` records end that stand one behind the other from `from` on, each as long as its length says
unfoldable pub ends : List ℕ → ℕ → ℕ → ℕ → ℕ
ends xs hi from zero = from
ends xs hi from (suc j) = ends xs hi from j + whole_of (next_of (part xs (ends xs hi from j) hi))

-- from `from` to lo stand `count` whole records, one behind the other
pub record Passed (xs : List ℕ) (from hi count lo : ℕ) : Type 0 where
  pub is : lo ≡ ends xs hi from count
  pub each : (j : ℕ) → j < count → 4 < whole_of (next_of (part xs (ends xs hi from j) hi))

-- a turn lists from `from` on and stays inside; what it passes over are the records that it counts, and each has bytes of its own
pub record Listed (xs : List ℕ) (from hi k room : ℕ) (s : Stand) : Type 0 where
  pub counted : k ≤ s.k
  pub passed : Passed xs from hi (s.k - k) s.lo
  pub forward : from ≤ s.lo
  pub inside : s.lo ≤ hi
  pub records : s.k + (hi - s.lo) ≤ k + (hi - from)
  pub fits : s.at ≤ room
