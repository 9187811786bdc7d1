-- `emit::run_entry` meets its contract: three fields one after the other.
-- Assumes nothing.
use mathlib.Core.Path.{refl, ap}
use Prim.Native.Nat.{ℕ, ◌+◌}
use Rattle.emit.proofs.Pieces.{entry_fields}
use Rattle.emit.proofs.run_entry.Goals as goal

pub returns : goal.returns
returns c = entry_fields _ _ _ _ c.args.at (ap (λ (w : ℕ). c.args.at + w) c.width.ensures.0) c.put_field.ensures c.put16.ensures c.put16-2.ensures refl
