-- Runs one after the other: the run that starts at an index, found by a loop over either width, and their number.
-- Assumes nothing.
use mathlib.Core.Path.{◌≡◌, refl, sym, ap, ◌∙◌}
use mathlib.Core.Bool.{true, false}
use mathlib.Core.Logic.{⊎_elim}
use mathlib.Core.List.{List, [], ◌∷◌}
use Prim.Native.Nat.{ℕ, suc, ◌+◌, ◌-◌, ◌<◌, ◌≤◌}
use native.Mathlib.Nat.{add-zero}
use native.Mathlib.Omega.{arith}
use lib.Dec.{eqb}
use lib.ListN.{length, get_or, drop, length-drop, drop_of_length-le}
use lib.Seq.{drop-drop}
use Rattle.model.specs.Tests.{pick}
use Rattle.model.specs.Lists.{Run, run, onto, runs_of}
use Rattle.model.proofs.Tests.{either, pick_true, pick_false, pick_most}
use Rattle.model.proofs.Taking.{drop_step}
use Rattle.model.proofs.Runs.{runs_cons}
use Rattle.stats.specs.Rows.{stretch, run_end}

-- ---- the first run of a list

stretch_on : (x y : ℕ) (ys : List ℕ) → eqb y (suc x) ≡ true → stretch x (y ∷ ys) ≡ suc (stretch y ys)
unfolding stretch
stretch_on x y ys e = pick_true _ _ e

stretch_off : (x y : ℕ) (ys : List ℕ) → eqb y (suc x) ≡ false → stretch x (y ∷ ys) ≡ 0
unfolding stretch
stretch_off x y ys e = pick_false _ _ e

stretch_most : (x : ℕ) (xs : List ℕ) → stretch x xs ≤ length xs
unfolding stretch
stretch_most x [] = omega arith
stretch_most x (y ∷ ys) =
    ⊎_elim (λ e. rw (stretch_on x y ys e) (omega (arith, stretch_most y ys))) (λ e. rw (stretch_off x y ys e) (omega arith)) (either (eqb y (suc x)))

pub first_run : (x : ℕ) (xs : List ℕ) → runs_of (x ∷ xs) ≡ run x (suc (stretch x xs)) ∷ runs_of (drop (stretch x xs) xs)
unfolding runs_of onto stretch pick
first_run x [] = refl
first_run x (y ∷ ys) =
    ap (onto x) (first_run y ys)
    ∙ ⊎_elim (λ e. rw e) (λ e. rw e (ap (λ (rs : List Run). run x 1 ∷ rs) (sym (first_run y ys)))) (either (eqb y (suc x)))

-- the run at index i, and the rest
pub run_at : (rows : List ℕ) (i : ℕ) → i < length rows → runs_of (drop i rows) ≡ run (get_or rows i 0) (run_end rows i - i) ∷ runs_of (drop (run_end rows i) rows)
unfolding run_end
run_at rows i h =
    let n = stretch (get_or rows i 0) (drop (i + 1) rows) in
    let e : i + 1 + n - i ≡ suc n = omega arith in
    rw (e, ← drop-drop n (i + 1) rows, drop_step rows i 0 h) (first_run (get_or rows i 0) (drop (i + 1) rows))

pub run_after : (rows : List ℕ) (i : ℕ) → i < run_end rows i
unfolding run_end
run_after rows i = omega arith

pub run_within : (rows : List ℕ) (i : ℕ) → i < length rows → run_end rows i ≤ length rows
unfolding run_end
run_within rows i h = omega (arith, stretch_most (get_or rows i 0) (drop (i + 1) rows), length-drop (i + 1) rows)

-- ---- the loop that looks for a run's end: up to j the run goes on

pub record Running (rows : List ℕ) (i j : ℕ) : Type 0 where
  pub begun : i < j
  pub within : j ≤ length rows
  pub whole : run_end rows i ≡ j + stretch (get_or rows (j - 1) 0) (drop j rows)

module _ (rows : List ℕ) (i : ℕ) where
  pub running_start : i < length rows → Running rows i (i + 1)
  unfolding run_end
  running_start h = let e : i + 1 - 1 ≡ i = omega arith in record { begun = omega arith; within = omega arith; whole = rw e }

  module _ (j : ℕ) (k : Running rows i j) (h : j < length rows) where
    pub running_next : eqb (get_or rows j 0) (suc (get_or rows (j - 1) 0)) ≡ true → Running rows i (j + 1)
    running_next e =
        let b = k.begun in
        let z : j + 1 - 1 ≡ j = omega arith in
        let s = stretch_on (get_or rows (j - 1) 0) (get_or rows j 0) (drop (j + 1) rows) e in
        record { begun = omega arith; within = omega arith; whole = k.whole ∙ rw (drop_step rows j 0 h, s, z) (omega arith) }

    pub running_stop : eqb (get_or rows j 0) (suc (get_or rows (j - 1) 0)) ≡ false → j ≡ run_end rows i
    running_stop e = sym (k.whole ∙ rw (drop_step rows j 0 h, stretch_off (get_or rows (j - 1) 0) (get_or rows j 0) (drop (j + 1) rows) e) (add-zero j))

  pub running_end : (j : ℕ) → Running rows i j → length rows ≤ j → j ≡ run_end rows i
  unfolding stretch
  running_end j k h = sym (k.whole ∙ rw (drop_of_length-le rows h) (add-zero j))

-- ---- the loop that counts runs

-- a number in front of others begins a run of its own, unless the first of them follows it
run_front : (x y : ℕ) (ys : List ℕ) → length (runs_of (x ∷ y ∷ ys)) ≡ pick {A = ℕ} (eqb y (suc x)) 0 1 + length (runs_of (y ∷ ys))
unfolding pick
run_front x y ys =
    ⊎_elim
    (λ e. rw e (omega (arith, rw e at (runs_cons x y ys))))
    (λ e. rw e (omega (arith, rw e at (runs_cons x y ys))))
    (either (eqb y (suc x)))

-- what a loop has counted of the rows before index i
pub record Counting (rows : List ℕ) (runs i : ℕ) : Type 0 where
  pub some : 1 ≤ i
  pub few : runs ≤ i
  pub within : i ≤ length rows
  pub whole : length (runs_of rows) + 1 ≡ runs + length (runs_of (drop (i - 1) rows))

module _ (rows : List ℕ) where
  pub counting_start : 1 ≤ length rows → Counting rows 1 1
  counting_start h = record { some = omega arith; few = omega arith; within = h; whole = omega arith }

  pub counting_next : (runs i : ℕ) → Counting rows runs i → i < length rows → {k : ℕ} → k ≡ pick {A = ℕ} (eqb (get_or rows i 0) (suc (get_or rows (i - 1) 0))) 0 1 → Counting rows (runs + k) (i + 1)
  counting_next runs i c h {k} f =
      let x = get_or rows (i - 1) 0 in
      let y = get_or rows i 0 in
      let few = pick_most (eqb y (suc x)) 0 1 1 (omega arith) (omega arith) in
      let w = c.some in
      let next : i - 1 + 1 ≡ i = omega arith in
      let here : i + 1 - 1 ≡ i = omega arith in
      let one = rw next at (drop_step rows (i - 1) 0 (omega arith)) in
      let two = drop_step rows i 0 h in
      let s : length (runs_of (drop (i - 1) rows)) ≡ k + length (runs_of (drop i rows)) = rw (one, two, f) (run_front x y (drop (i + 1) rows)) in
      record { some = omega arith; few = omega (arith, c.few, few); within = omega arith; whole = rw here (omega (arith, c.whole, s)) }

  pub counting_end : (runs i : ℕ) → Counting rows runs i → length rows ≤ i → runs ≡ length (runs_of rows)
  unfolding runs_of onto
  counting_end runs i c h =
      let w = c.within in
      let s = c.some in
      let next : i - 1 + 1 ≡ i = omega arith in
      let one = rw next at (drop_step rows (i - 1) 0 (omega arith)) in
      let n : length (runs_of (drop (i - 1) rows)) ≡ 1 = rw (one, drop_of_length-le rows h) refl in
      omega (arith, c.whole, n)
