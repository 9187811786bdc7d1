-- What a writer leaves in a lent slice.
-- Assumes nothing.
use Rattle.std.specs.Prelude.{◌≡◌, List, ℕ, ◌+◌, length}
use Rattle.std.proofs.lemmas.List.Edits.{sets}

-- the bytes stand from at on, the rest is as it was, and r is the place behind them
pub record Written (bytes : List ℕ) (at : ℕ) (before after : List ℕ) (r : ℕ) : Type 0 where
  pub stands : after ≡ sets before at bytes
  pub behind : r ≡ at + length bytes
