-- Rows as positions: the same list, counted from the start of its coverage. They are shifted back, and have as many runs.
-- Assumes nothing.
use mathlib.Core.Path.{◌≡◌, refl, sym, ap, ◌∙◌}
use mathlib.Core.Bool.{Bool}
use mathlib.Core.List.{List, [], ◌∷◌}
use Prim.Native.Nat.{ℕ, zero, suc, ◌+◌, ◌-◌, ◌<◌, ◌≤◌}
use native.Mathlib.Nat.{sub-zero}
use native.Mathlib.Omega.{arith}
use lib.Dec.{eqb}
use lib.ListN.{length, get_or, take, drop}
use Rattle.model.specs.Tests.{pick}
use Rattle.model.specs.Lists.{Rising, none, more, shift, positions_of, onto, runs_of}
use Rattle.model.proofs.Tests.{same_eqb}
use Rattle.model.proofs.Runs.{runs_cons}

pub length_positions : (start : ℕ) (rows : List ℕ) → length (positions_of start rows) ≡ length rows
unfolding positions_of
length_positions start [] = refl
length_positions start (r ∷ rs) = ap suc (length_positions start rs)

pub get_or_positions : (start : ℕ) (rows : List ℕ) (k : ℕ) → k < length rows → get_or (positions_of start rows) k 0 ≡ get_or rows k 0 - start
unfolding positions_of
get_or_positions start [] k h = absurd (omega arith)
get_or_positions start (r ∷ rs) zero h = refl
get_or_positions start (r ∷ rs) (suc k) h = get_or_positions start rs k (omega arith)

pub positions_take : (start n : ℕ) (xs : List ℕ) → positions_of start (take n xs) ≡ take n (positions_of start xs)
unfolding positions_of
positions_take start zero xs = refl
positions_take start (suc n) [] = refl
positions_take start (suc n) (x ∷ xs) = rw (positions_take start n xs)

pub positions_drop : (start n : ℕ) (xs : List ℕ) → positions_of start (drop n xs) ≡ drop n (positions_of start xs)
unfolding positions_of
positions_drop start zero xs = refl
positions_drop start (suc n) [] = refl
positions_drop start (suc n) (x ∷ xs) = positions_drop start n xs

-- rows from start on are their positions shifted back
pub positions_back : {a b : ℕ} {rows : List ℕ} (start : ℕ) → start ≤ a → Rising a b rows → rows ≡ shift start (positions_of start rows)
unfolding positions_of shift
positions_back start h none = refl
positions_back start h (more {x = x} {xs = xs} l u r) =
    let e : start + (x - start) ≡ x = omega arith in
    rw (e, ← positions_back start (omega arith) r)

pub positions_shift : (start : ℕ) (xs : List ℕ) → positions_of start (shift start xs) ≡ xs
unfolding positions_of shift
positions_shift start [] = refl
positions_shift start (x ∷ xs) = let e : start + x - start ≡ x = omega arith in rw (e, positions_shift start xs)

-- counted from 0, rows are positions already
pub positions_zero : (xs : List ℕ) → positions_of 0 xs ≡ xs
unfolding positions_of
positions_zero [] = refl
positions_zero (x ∷ xs) = rw (sub-zero, positions_zero xs)

pub positions_rising : {a b : ℕ} {rows : List ℕ} (start : ℕ) → start ≤ a → Rising a b rows → Rising (a - start) (b - start) (positions_of start rows)
unfolding positions_of
positions_rising start h none = none
positions_rising {a} {b} start h (more {x = x} l u r) =
    let e : suc x - start ≡ suc (x - start) = omega arith in
    more {a = a - start} {b = b - start} {x = x - start} (omega arith) (omega arith) (rw e at (positions_rising start (omega arith) r))

-- ---- a shift keeps the number of runs

follows_shift : (b x y : ℕ) → eqb (b + y) (suc (b + x)) ≡ eqb y (suc x)
follows_shift b x y = same_eqb (b + y) (suc (b + x)) y (suc x) (λ e. omega arith) (λ e. omega arith)

pub runs_shift : (b : ℕ) (xs : List ℕ) → length (runs_of (shift b xs)) ≡ length (runs_of xs)
unfolding shift runs_of onto
runs_shift b [] = refl
runs_shift b (x ∷ []) = refl
runs_shift b (x ∷ y ∷ ys) =
    omega (arith, runs_cons (b + x) (b + y) (shift b ys), runs_cons x y ys, ap (λ (t : Bool). pick {A = ℕ} t 1 0) (follows_shift b x y), runs_shift b (y ∷ ys))

pub runs_positions : {a b : ℕ} {rows : List ℕ} (start : ℕ) → start ≤ a → Rising a b rows → length (runs_of (positions_of start rows)) ≡ length (runs_of rows)
runs_positions {a} {b} {rows} start h r = sym (runs_shift start (positions_of start rows)) ∙ ap (λ (xs : List ℕ). length (runs_of xs)) (sym (positions_back start h r))
