-- Statistics of an append are the join of the statistics, and statistics of rising positions are sound.
-- Assumes nothing.
use mathlib.Core.Path.{◌≡◌, ap, ◌∙◌}
use mathlib.Core.Logic.{⊎_elim}
use mathlib.Core.List.{List, [], ◌∷◌, ◌++◌}
use Prim.Native.Nat.{ℕ, suc, ◌+◌, ◌-◌, ◌≤◌}
use native.Mathlib.Omega.{arith}
use lib.Dec.{eqb}
use lib.ListN.{length, get_or, length-append}
use lib.Seq.{get_or-append-add}
use Rattle.model.specs.Tests.{pick}
use Rattle.model.specs.Lists.{Rising, runs_of}
use Rattle.model.proofs.Tests.{either, order}
use Rattle.model.proofs.Runs.{runs_append, runs_some, runs_most}
use Rattle.model.proofs.Rising.{rising_from, rising_below, rising_apart}
use Rattle.stats.specs.declared.Stats.{Stats}
use Rattle.stats.specs.Statistics.{stats_of, joined, Sound, Neighbours}

-- ---- statistics

-- of an append, with no look at the rows
pub stats_append : (xs ys : List ℕ) → 1 ≤ length xs → 1 ≤ length ys → stats_of (xs ++ ys) ≡ joined (stats_of xs) (stats_of ys)
unfolding stats_of joined
stats_append [] ys h l = absurd (omega arith)
stats_append (x ∷ xs) [] h l = absurd (omega arith)
stats_append (x ∷ xs) (y ∷ ys) h l =
    let count : length ((x ∷ xs) ++ y ∷ ys) ≡ length (x ∷ xs) + length (y ∷ ys) = length-append (x ∷ xs) (y ∷ ys) in
    let at : length ((x ∷ xs) ++ y ∷ ys) - 1 ≡ length (x ∷ xs) + (length (y ∷ ys) - 1) = omega arith in
    let last : get_or ((x ∷ xs) ++ y ∷ ys) (length ((x ∷ xs) ++ y ∷ ys) - 1) 0 ≡ get_or (y ∷ ys) (length (y ∷ ys) - 1) 0 = ap (λ (i : ℕ). get_or ((x ∷ xs) ++ y ∷ ys) i 0) at ∙ get_or-append-add (x ∷ xs) (y ∷ ys) (length (y ∷ ys) - 1) 0 in
    let tail : length (x ∷ xs) - 1 ≡ length xs = omega arith in
    let runs : length (runs_of ((x ∷ xs) ++ y ∷ ys)) ≡ length (runs_of (x ∷ xs)) + length (runs_of (y ∷ ys)) - pick (eqb y (suc (get_or (x ∷ xs) (length (x ∷ xs) - 1) 0))) 1 0 = rw tail (omega (arith, runs_append x xs y ys)) in
    rw (last, runs, count)

-- a rising list goes up by one or more at each step
pub reach : {a b : ℕ} {xs : List ℕ} → Rising a b xs → 1 ≤ length xs → get_or xs 0 0 + (length xs - 1) ≤ get_or xs (length xs - 1) 0
reach {xs = xs} r h =
    ⊎_elim
    (λ l. omega (arith, rising_apart r 0 (length xs - 1) l (omega arith)))
    (λ (g : length xs - 1 ≤ 0). let e : length xs - 1 ≡ 0 = omega arith in rw e (omega arith))
    (order 0 (length xs - 1))

some_runs : (xs : List ℕ) → 1 ≤ length xs → 1 ≤ length (runs_of xs)
some_runs [] h = absurd (omega arith)
some_runs (x ∷ xs) h = runs_some x xs

-- of rising positions
pub stats_sound : {a b : ℕ} {xs : List ℕ} → Rising a b xs → 1 ≤ length xs → b ≤ 4294967295 → Sound (stats_of xs)
unfolding stats_of
stats_sound {a} {b} {xs} r h l =
    let up = reach r h in
    record {
      ordered = omega arith;
      below = omega (arith, rising_below r (length xs - 1) (omega arith));
      some = some_runs xs h;
      few = runs_most xs;
      inside = omega arith;
    }

-- of two neighbours
pub joined-sound : (a b : Stats) → Neighbours a b → Sound (joined a b)
unfolding joined pick
joined-sound a b n =
    let l = n.left in
    let r = n.right in
    let k = n.apart in
    ⊎_elim
    (λ e. rw e (record { ordered = omega arith; below = omega arith; some = omega arith; few = omega arith; inside = omega arith }))
    (λ e. rw e (record { ordered = omega arith; below = omega arith; some = omega arith; few = omega arith; inside = omega arith }))
    (either (eqb b.first (suc a.last)))

-- of the two parts of a rising list
pub stats_neighbours : {a m b : ℕ} {xs ys : List ℕ} → Rising a m xs → Rising m b ys → 1 ≤ length xs → 1 ≤ length ys → m ≤ b → b ≤ 4294967295 → Neighbours (stats_of xs) (stats_of ys)
unfolding stats_of
stats_neighbours {xs = xs} {ys = ys} r s h k l n = record {
  left = stats_sound r h (omega arith);
  right = stats_sound s k n;
  apart = omega (arith, rising_below r (length xs - 1) (omega arith), rising_from s 0 k);
}
