-- Runs: the runs of a list spread to the list, the runs of spread runs that stand apart are those runs, and how many there are.
-- Assumes nothing.
use mathlib.Core.Path.{◌≡◌, refl, sym, ap, ap₂, ◌∙◌}
use mathlib.Core.Logic.{⊎_elim}
use mathlib.Core.List.{List, [], ◌∷◌, ◌++◌, append-nil, append_assoc}
use Prim.Native.Nat.{ℕ, zero, suc, ◌+◌, ◌-◌, ◌<◌, ◌≤◌, min}
use native.Mathlib.Nat.{le_trans}
use native.Mathlib.Omega.{arith}
use lib.ListN.{length, get_or, length-append}
use lib.Dec.{eqb}
use borrow.Author.Tests.{eq-eqb, ne_eqb}
use Rattle.model.specs.Tests.{pick, tabulate, flat, total}
use Rattle.model.specs.Lists.{Rising, none, more, below, has, range, Run, run, spread, onto, runs_of, Apart, stop, next}
use Rattle.model.proofs.Tests.{either, pick_true, pick_false, same_or_not, strictly}
use Rattle.model.proofs.Sums.{total_front}
use Rattle.model.proofs.Rising.{rising_append, rising_wider}
use Rattle.model.proofs.Ranges.{range_rising, below-range, length-range, get_or-range}
use Rattle.model.proofs.Pieces.{Pieces, pieces_place, pieces_select}

-- ---- a position put in front

onto-joins : (x : ℕ) (r : Run) (rs : List Run) → r.start ≡ suc x → onto x (r ∷ rs) ≡ run x (suc r.size) ∷ rs
unfolding onto
onto-joins x r rs e = pick_true _ _ (eq-eqb r.start (suc x) e)

onto_new : (x : ℕ) (r : Run) (rs : List Run) → (r.start ≡ suc x → ⊥) → onto x (r ∷ rs) ≡ run x 1 ∷ r ∷ rs
unfolding onto
onto_new x r rs n = pick_false _ _ (ne_eqb r.start (suc x) n)

spread-onto : (x : ℕ) (rs : List Run) → spread (onto x rs) ≡ x ∷ spread rs
unfolding spread onto range
spread-onto x [] = refl
spread-onto x (r ∷ rs) =
    ⊎_elim
    (λ e. rw (onto-joins x r rs e, e))
    (λ n. rw (onto_new x r rs n))
    (same_or_not r.start (suc x))

-- the runs of a list spread to the list
pub spread-runs_of : (xs : List ℕ) → spread (runs_of xs) ≡ xs
unfolding runs_of spread
spread-runs_of [] = refl
spread-runs_of (x ∷ xs) = spread-onto x (runs_of xs) ∙ ap (λ (l : List ℕ). x ∷ l) (spread-runs_of xs)

-- ---- runs that stand apart

-- a run of one position in front
single : {a b : ℕ} (x : ℕ) {rs : List Run} → a ≤ x → x < b → Apart (suc (x + 1)) b rs → Apart a b (run x 1 ∷ rs)
single {a} {b} x l h s = next {b = b} {r = run x 1} l (omega arith) (omega arith) s

apart_onto : {a b x : ℕ} {rs : List Run} → a ≤ x → x < b → Apart (suc x) b rs → Apart a b (onto x rs)
unfolding onto
apart_onto {a} {b} {x} l h stop = single x l h stop
apart_onto {a} {b} {x} l h (next {r = r} {rs = rs} p q e s) =
    ⊎_elim
    (λ (j : r.start ≡ suc x).
    let f : x + suc r.size ≡ r.start + r.size = omega arith in
    rw (onto-joins x r rs j) (next {b = b} {r = run x (suc r.size)} {rs = rs} l (omega arith) (rw f e) (rw f s)))
    (λ n.
    let far : suc (x + 1) ≤ r.start = omega (arith, strictly p (λ j. n (sym j))) in
    rw (onto_new x r rs n) (single x l h (next {r = r} far q e s)))
    (same_or_not r.start (suc x))

pub apart_runs_of : {a b : ℕ} {xs : List ℕ} → Rising a b xs → Apart a b (runs_of xs)
unfolding runs_of
apart_runs_of none = stop
apart_runs_of (more l h r) = apart_onto l h (apart_runs_of r)

pub spread_rising : {a b : ℕ} {rs : List Run} → Apart a b rs → Rising a b (spread rs)
unfolding spread
spread_rising stop = none
spread_rising {a} {b} (next {r = r} l q e s) =
    let m = r.start + r.size in
    let under : a ≤ m = le_trans l (omega arith) in
    rising_append under e (rising_wider l (omega arith) (range_rising r.start r.size)) (rising_wider (omega arith) (omega arith) (spread_rising s))

onto_alone : {b : ℕ} (x : ℕ) (rs : List Run) → Apart (suc (x + 1)) b rs → onto x rs ≡ run x 1 ∷ rs
unfolding onto
onto_alone x [] a = refl
onto_alone x (r ∷ rs) (next p q e t) = onto_new x r rs (λ j. omega arith)

-- a run in front of runs that stand apart from it
front_run : (s n : ℕ) (ys : List ℕ) (b : ℕ) → Apart (suc (s + suc n)) b (runs_of ys) → runs_of (range s (suc n) ++ ys) ≡ run s (suc n) ∷ runs_of ys
unfolding runs_of range
front_run s zero ys b a = onto_alone s (runs_of ys) a
front_run s (suc n) ys b a =
    let f : s + suc (suc n) ≡ suc s + suc n = omega arith in
    rw (front_run (suc s) n ys b (rw f at a)) (onto-joins s (run (suc s) (suc n)) (runs_of ys) refl)

-- the runs of spread runs
pub runs_of-spread : {a b : ℕ} {rs : List Run} → Apart a b rs → runs_of (spread rs) ≡ rs
unfolding spread runs_of
runs_of-spread stop = refl
runs_of-spread {a} {b} (next {r = r} {rs = rs} l q e s) =
    let ih = runs_of-spread s in
    let k : r.size ≡ suc (r.size - 1) = omega arith in
    let t : Apart (suc (r.start + suc (r.size - 1))) b (runs_of (spread rs)) = rw (← k, ih) s in
    let f = front_run r.start (r.size - 1) (spread rs) b t in
    ap (λ (n : ℕ). runs_of (range r.start n ++ spread rs)) k ∙ f ∙ ap₂ (λ (n : ℕ) (l : List Run). run r.start n ∷ l) (sym k) ih

-- ---- how many runs a list has

-- one element more in front is a run more, but where it touches the first run
onto_count : (x y : ℕ) (rs : List Run) → (get_or rs 0 (run 0 0)).start ≡ y → 1 ≤ length rs → length (onto x rs) + pick (eqb y (suc x)) 1 0 ≡ suc (length rs)
unfolding onto pick
onto_count x y [] e h = absurd (omega arith)
onto_count x y (r ∷ rs) e h = rw (← e) (⊎_elim (λ t. rw t (omega arith)) (λ t. rw t (omega arith)) (either (eqb r.start (suc x))))

-- the runs of a list that is not empty start with its first element
onto_start : (y : ℕ) (rs : List Run) → (get_or (onto y rs) 0 (run 0 0)).start ≡ y
unfolding onto pick
onto_start y [] = refl
onto_start y (r ∷ rs) = ⊎_elim (λ e. rw e) (λ e. rw e) (either (eqb r.start (suc y)))

onto_some : (y : ℕ) (rs : List Run) → 1 ≤ length (onto y rs)
unfolding onto pick
onto_some y [] = omega arith
onto_some y (r ∷ rs) = ⊎_elim (λ e. rw e (omega arith)) (λ e. rw e (omega arith)) (either (eqb r.start (suc y)))

pub runs_cons : (x y : ℕ) (ys : List ℕ) → length (runs_of (x ∷ y ∷ ys)) + pick (eqb y (suc x)) 1 0 ≡ suc (length (runs_of (y ∷ ys)))
unfolding runs_of
runs_cons x y ys = onto_count x y (onto y (runs_of ys)) (onto_start y (runs_of ys)) (onto_some y (runs_of ys))

-- two lists have the runs of each, but where the second goes on from the first
pub runs_append : (x : ℕ) (xs : List ℕ) (y : ℕ) (ys : List ℕ) → length (runs_of ((x ∷ xs) ++ y ∷ ys)) + pick (eqb y (suc (get_or (x ∷ xs) (length xs) 0))) 1 0 ≡ length (runs_of (x ∷ xs)) + length (runs_of (y ∷ ys))
unfolding runs_of onto
runs_append x [] y ys = omega (arith, runs_cons x y ys)
runs_append x (z ∷ xs) y ys = omega (arith, runs_cons x z (xs ++ y ∷ ys), runs_cons x z xs, runs_append z xs y ys)

pub runs_some : (x : ℕ) (xs : List ℕ) → 1 ≤ length (runs_of (x ∷ xs))
unfolding runs_of
runs_some x xs = onto_some x (runs_of xs)

pub runs_most : (xs : List ℕ) → length (runs_of xs) ≤ length xs
unfolding runs_of onto
runs_most [] = omega arith
runs_most (x ∷ []) = omega arith
runs_most (x ∷ y ∷ ys) = omega (arith, runs_cons x y ys, runs_most (y ∷ ys))

-- ---- tabulated runs, as a body has them

pub spread-append : (rs ss : List Run) → spread (rs ++ ss) ≡ spread rs ++ spread ss
unfolding spread
spread-append [] ss = refl
spread-append (r ∷ rs) ss = rw (spread-append rs ss) (sym (append_assoc (range r.start r.size) (spread rs) (spread ss)))

pub spread-tabulate : (f : ℕ → Run) (n : ℕ) → spread (tabulate f n) ≡ flat (λ (i : ℕ). range (f i).start (f i).size) n
unfolding tabulate flat spread
spread-tabulate f zero = refl
spread-tabulate f (suc n) = spread-append (tabulate f n) (f n ∷ []) ∙ rw (spread-tabulate f n, append-nil)

-- ---- runs by index

-- run i of a list
abbrev pub nth : List Run → ℕ → Run
nth rs i = get_or rs i (run 0 0)

abbrev pub sizes : List Run → ℕ → ℕ
sizes rs i = (nth rs i).size

pub record Placed (a b : ℕ) (r : Run) : Type 0 where
  pub from : a ≤ r.start
  pub filled : 1 ≤ r.size
  pub to : r.start + r.size ≤ b

pub apart_at : {a b : ℕ} {rs : List Run} → Apart a b rs → (i : ℕ) → i < length rs → Placed a b (nth rs i)
apart_at stop i h = absurd (omega arith)
apart_at (next p q o t) zero h = record { from = p; filled = q; to = o }
apart_at (next p q o t) (suc i) h = let s = apart_at t i (omega arith) in record { from = omega (arith, s.from); filled = s.filled; to = s.to }

pub apart_next : {a b : ℕ} {rs : List Run} → Apart a b rs → (i : ℕ) → suc i < length rs → (nth rs i).start + (nth rs i).size < (nth rs (suc i)).start
apart_next stop i h = absurd (omega arith)
apart_next (next p q o t) zero h = (apart_at t 0 (omega arith)).from
apart_next (next p q o t) (suc i) h = apart_next t i (omega arith)

-- the rows of runs
pub sizes_total : (rs : List Run) → total (sizes rs) (length rs) ≡ length (spread rs)
unfolding spread total
sizes_total [] = refl
sizes_total (r ∷ rs) = total_front (sizes (r ∷ rs)) (length rs) ∙ rw (sizes_total rs) (sym (length-append (range r.start r.size) (spread rs) ∙ rw length-range))

-- runs that stand apart, and one more behind them
pub apart_behind : {a b c : ℕ} {r : Run} {rs : List Run} → Apart a c rs → a ≤ r.start → c < r.start → 1 ≤ r.size → r.start + r.size ≤ b → Apart a b (rs ++ (r ∷ []))
apart_behind stop l h f e = next l f e stop
apart_behind {b = b} (next p q o t) l h f e = next {b = b} p q (omega arith) (apart_behind t (omega arith) h f e)

-- place and select under spread: run i, whose window holds p or comes last before it, is asked
module _ (f : ℕ → Run) (n a b : ℕ) (s : Pieces (λ (i : ℕ). range (f i).start (f i).size) (λ (i : ℕ). (f i).start) (λ (i : ℕ). (f i).start + (f i).size) n a b) where
  pub spread_place : (p i : ℕ) → i < n → (f i).start ≤ p → ((j : ℕ) → i < j → j < n → p < (f j).start)
      → (below (spread (tabulate f n)) p ≡ length (spread (tabulate f i)) + min (p - (f i).start) (f i).size) × (has (spread (tabulate f n)) p ≡ has (range (f i).start (f i).size) p)
  spread_place p i h l u =
      let w = pieces_place n s p i h l u in
      rw (spread-tabulate f n, spread-tabulate f i) (w.0 ∙ rw (below-range (f i).start (f i).size p), w.1)

pub spread_select : (f : ℕ → Run) (n i k : ℕ) → i < n → k < (f i).size → get_or (spread (tabulate f n)) (length (spread (tabulate f i)) + k) 0 ≡ (f i).start + k
spread_select f n i k h l =
    rw (spread-tabulate f n, spread-tabulate f i)
    (pieces_select (λ (j : ℕ). range (f j).start (f j).size) n i k h (rw (length-range (f i).start (f i).size) l) ∙ get_or-range (f i).start (f i).size k l)
