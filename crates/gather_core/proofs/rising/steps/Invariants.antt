-- `gather_core::rising::steps` meets its contract.
-- Assumes nothing.
use Rattle.std.proofs.Common.{◌≡◌, ◌∷◌, get_or, drop}
use Rattle.gather_core.specs.Steps.{Stepped}
use Rattle.gather_core.proofs.rising.steps.Given as goal

abbrev pub invariant-loop-row : goal.invariant-loop-row
invariant-loop-row l = (l.before ≡ get_or (l.fn.first ∷ drop l.from l.rows) l.row-index 0) × Stepped l.least (l.fn.first ∷ drop l.from l.rows) l.row-index
