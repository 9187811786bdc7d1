-- What one segment leaves in a lent slice.
-- Assumes nothing.
use Rattle.std.specs.Prelude.{List, ℕ}
use Rattle.directory.specs.declared.Segment.{Segment}
use Rattle.emit.specs.Written.{Written}
use Rattle.encode.specs.Headers.{entry_bytes}

-- its payload stands from at on, up to r, and its entry at place
pub record Placed (place at : ℕ) (e : Segment) (payload : List ℕ) (before after : List ℕ) (r : ℕ) : Type 0 where
  pub between : List ℕ
  pub body : Written payload at before between r
  pub behind : ℕ
  pub entry : Written (entry_bytes e) place between after behind
