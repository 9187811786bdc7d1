-- What a test counts for, and what counting by tests of neighbours counts.
-- Assumes nothing.
use mathlib.Core.Path.{◌≡◌, refl, sym, ap, ◌∙◌}
use mathlib.Core.Bool.{Bool, true, false, not}
use mathlib.Core.List.{List}
use Prim.Native.Nat.{ℕ, suc, ◌+◌, ◌-◌, ◌%◌, ◌<◌, ◌≤◌}
use native.Mathlib.Omega.{arith}
use lib.Dec.{eqb}
use lib.ListN.{length, get_or}
use mir.Val.{bool_byte}
use Rattle.model.specs.Tests.{pick}
use Rattle.model.specs.Lists.{positions_of}
use Rattle.model.proofs.Positions.{get_or_positions}
use Rattle.model.proofs.Tests.{same_eqb}
use Rattle.stats.specs.Rows.{Within}

pub one : (t : Bool) → (bool_byte t ≡ pick {A = ℕ} t 1 0) × (bool_byte t ≤ 1)
unfolding pick
one true = (refl, omega arith)
one false = (refl, omega arith)

one_not : (t : Bool) → bool_byte (not t) ≡ pick {A = ℕ} t 0 1
unfolding pick
one_not true = refl
one_not false = refl

step_apart : (start a b s : ℕ) → start ≤ a → a < start + 4294967295 → start ≤ b → b < start + 4294967295 → s < 4294967296 → (a + s) % 4294967296 ≡ b % 4294967296
    → eqb s 1 ≡ eqb (b - start) (suc (a - start))
step_apart start a b s l m n o p e = same_eqb _ _ _ _ (λ f. omega arith) (λ f. omega arith)

-- to the row at i of some that can be planned, from the row before it: a step of 1 is one of positions
pub steps_apart : (start : ℕ) (rows : List ℕ) {s : ℕ} (i : ℕ) → Within start rows → 1 ≤ i → i < length rows → s < 4294967296 → (get_or rows (i - 1) 0 + s) % 4294967296 ≡ get_or rows i 0 % 4294967296
    → bool_byte (not (eqb s 1)) ≡ pick {A = ℕ} (eqb (get_or (positions_of start rows) i 0) (suc (get_or (positions_of start rows) (i - 1) 0))) 0 1
steps_apart start rows {s} i w some h p q =
    let k : i - 1 < length rows = omega arith in
    rw (get_or_positions start rows i h, get_or_positions start rows (i - 1) k, step_apart start (get_or rows (i - 1) 0) (get_or rows i 0) s (w.from (i - 1) k) (w.below (i - 1) k) (w.from i h) (w.below i h) p q)
    (one_not (eqb (get_or rows i 0 - start) (suc (get_or rows (i - 1) 0 - start))))

pub position_at : (start : ℕ) (rows : List ℕ) {p r : ℕ} (i : ℕ) → i < length rows → p ≡ r - start → r ≡ get_or rows i 0 → p ≡ get_or (positions_of start rows) i 0
position_at start rows i h e f = e ∙ ap (λ (r : ℕ). r - start) f ∙ sym (get_or_positions start rows i h)
