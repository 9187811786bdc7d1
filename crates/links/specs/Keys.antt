-- An offer as one number: the greater number saves more, or as much from further left.
-- Assumes nothing.
use Rattle.std.specs.Prelude.{ℕ, ◌+◌, ◌*◌, ◌-◌, ◌/◌, ◌%◌}
use Rattle.links.specs.declared.Pair.{Pair}

-- the offer to join the segments that meet at m, from l to r, which saves s
abbrev pub code : ℕ → ℕ → ℕ → ℕ → ℕ
code s l m r = s * 281474976710656 + (65535 - l) * 4294967296 + m * 65536 + r

-- and back
unfoldable pub pair_of : ℕ → Pair
pair_of k = record { left = 65535 - k / 4294967296 % 65536; middle = k / 65536 % 65536; right = k % 65536 }
