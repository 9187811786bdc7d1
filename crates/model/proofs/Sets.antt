-- A list written into another from a place on: what stands below it, above it and in it.
-- Assumes nothing.
use mathlib.Core.Path.{◌≡◌, refl, ◌∙◌}
use mathlib.Core.List.{List, [], ◌∷◌, ◌++◌}
use Prim.Native.Nat.{ℕ, zero, suc, ◌+◌, ◌<◌, ◌≤◌}
use native.Mathlib.Nat.{zero-add, add-zero, suc-add, add-suc, not-suc-le-zero, le_of_suc-le-suc}
use native.Mathlib.Numerals.{add-one}
use native.Mathlib.Omega.{arith}
use lib.ListN.{length, get_or, set, take, length-set}
use lib.Seq.{sets, sets-eq, take-suc, length-take-le, get_or-set_same, get_or-set_other}
use Rattle.model.specs.Answers.{over}

pub sets_below : (vs l : List ℕ) (at j : ℕ) → j < at → get_or (sets l at vs) j 0 ≡ get_or l j 0
sets_below [] l at j h = refl
sets_below (a ∷ vs) l at j h = sets_below vs (set l at a) (suc at) j (omega arith) ∙ get_or-set_other l at j a 0 (omega arith)

pub sets-above : (vs l : List ℕ) (at j : ℕ) → at + length vs ≤ j → get_or (sets l at vs) j 0 ≡ get_or l j 0
sets-above [] l at j h = refl
sets-above (a ∷ vs) l at j h = sets-above vs (set l at a) (suc at) j (omega arith) ∙ get_or-set_other l at j a 0 (omega arith)

pub sets_in : (vs l : List ℕ) (at i : ℕ) → i < length vs → at + length vs ≤ length l → get_or (sets l at vs) (at + i) 0 ≡ get_or vs i 0
sets_in [] l at i h k = absurd (not-suc-le-zero h)
sets_in (a ∷ vs) l at zero h k =
    rw add-zero (sets_below vs (set l at a) (suc at) at (omega arith) ∙ get_or-set_same l at a 0 (omega arith))
sets_in (a ∷ vs) l at (suc i) h k =
    rw (add-suc, ← suc-add) (sets_in vs (set l at a) (suc at) i (le_of_suc-le-suc h) (rw length-set (omega arith)))

pub sets-append : (us vs l : List ℕ) (at : ℕ) → sets l at (us ++ vs) ≡ sets (sets l at us) (at + length us) vs
sets-append [] vs l at = rw add-zero
sets-append (a ∷ us) vs l at = rw (add-suc, ← suc-add) (sets-append us vs (set l at a) (suc at))

-- one number more of those that are written
pub sets-next : (vs l : List ℕ) (at i : ℕ) → i < length vs → sets l at (take (i + 1) vs) ≡ set (sets l at (take i vs)) (at + i) (get_or vs i 0)
sets-next vs l at i h = rw (add-one i, take-suc vs i 0 h, sets-append (take i vs) (get_or vs i 0 ∷ []) l at, length-take-le i vs (omega arith))

-- in front
pub sets_front : (front xs : List ℕ) → length front ≤ length xs → sets xs 0 front ≡ over front xs
unfolding over
sets_front front xs h = sets-eq front xs 0 (omega arith) ∙ rw zero-add
