-- What every body asks of the list that it holds over a span.
-- Assumes nothing.
use Rattle.std.specs.Prelude.{List, ℕ, ◌≤◌, length}
use Rattle.model.specs.Lists.{Rising}

-- positions that rise below the span, 1 to 65,535 of them
pub record RowSet (span : ℕ) (rows : List ℕ) : Type 0 where
  pub rising : Rising 0 span rows
  pub some : 1 ≤ length rows
  pub most : length rows ≤ 65535
