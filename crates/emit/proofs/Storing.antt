-- Stores at places that do not overlap.
-- Assumes nothing.
use mathlib.Core.Path.{◌≡◌, refl, ap, ◌∙◌}
use mathlib.Core.List.{List, [], ◌∷◌}
use Prim.Native.Nat.{ℕ, suc, ◌+◌, ◌<◌, ◌≤◌}
use native.Mathlib.Omega.{arith}
use lib.ListN.{length, set}
use lib.Seq.{sets, set_comm}
use Rattle.fields.specs.Le.{digits, put}
use Rattle.fields.proofs.Laws.{length_digits}

set_below : (vs l : List ℕ) (at i a : ℕ) → i < at → set (sets l at vs) i a ≡ sets (set l i a) at vs
set_below [] l at i a h = refl
set_below (v ∷ vs) l at i a h = set_below vs (set l at v) (suc at) i a (omega arith) ∙ ap (λ (m : List ℕ). sets m (suc at) vs) (set_comm l at i v a (λ e. omega arith))

pub sets_comm : (us vs l : List ℕ) (at to : ℕ) → at + length us ≤ to → sets (sets l to vs) at us ≡ sets (sets l at us) to vs
sets_comm [] vs l at to h = refl
sets_comm (u ∷ us) vs l at to h = ap (λ (m : List ℕ). sets m (suc at) us) (set_below vs l to at u (omega arith)) ∙ sets_comm us vs (set l at u) (suc at) to (omega arith)

pub put_comm : (m n : ℕ) (xs : List ℕ) (at to u v : ℕ) → at + m ≤ to → put m (put n xs to v) at u ≡ put n (put m xs at u) to v
unfolding put
put_comm m n xs at to u v h = sets_comm (digits m u) (digits n v) xs at to (rw length_digits h)
