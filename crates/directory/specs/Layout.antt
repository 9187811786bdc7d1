-- The bytes of a directory, from what a writer knows of the segments.
-- Assumes nothing.
use Rattle.std.specs.Prelude.{List, ◌++◌, ℕ, ◌+◌}
use Rattle.fields.specs.Le.{digits}
use Rattle.model.specs.Tests.{flat, total}
use Rattle.directory.specs.Directory.{directory_size}

-- of each segment: where it starts, its span, its rows, the bytes of its payload, its tag
pub record Plan : Type 0 where
  pub start : ℕ → ℕ
  pub span : ℕ → ℕ
  pub count : ℕ → ℕ
  pub size : ℕ → ℕ
  pub tag : ℕ → ℕ

-- entry i of n: ordinals and offsets are running sums
unfoldable pub entry_layout : Plan → ℕ → ℕ → List ℕ
entry_layout s n i =
    digits 4 (s.start i)
    ++ (digits 2 (s.span i)
    ++ (digits 2 (s.count i)
    ++ (digits 2 (total s.count i)
    ++ (digits 2 (directory_size n + total s.size i)
    ++ (digits 2 (s.size i)
    ++ (digits 1 (s.tag i)
    ++ digits 1 0))))))

unfoldable pub directory_layout : Plan → ℕ → List ℕ
directory_layout s n = digits 2 (total s.count n) ++ (digits 2 n ++ flat (entry_layout s n) n)
