use Rattle.std.proofs.Common.{◌≡◌}
use Rattle.tables.proofs.Filling.{fill_to}
use Rattle.tables.proofs.segments.Given as goal

-- the table is filled up to i
abbrev pub invariant-loop-i : goal.invariant-loop-i
invariant-loop-i l = l.table ≡ fill_to l.body l.i l.fn.table
