-- A loop over rows that writes a form run by run. The form is what its bytes are from a run on: of the rows before that run,
-- the end of the run before it, and the runs that are left.
-- Assumes nothing.
use mathlib.Core.Path.{◌≡◌, ap, ◌∙◌}
use mathlib.Core.List.{List, [], ◌∷◌, ◌++◌}
use Prim.Native.Nat.{ℕ, ◌+◌, ◌-◌, ◌<◌, ◌≤◌}
use native.Mathlib.Nat.{le_trans}
use native.Mathlib.Omega.{arith}
use lib.ListN.{length, get_or, drop, drop_of_length-le}
use Rattle.model.specs.Lists.{Rising, Run, run, runs_of, Apart, stop, next}
use Rattle.model.proofs.Runs.{apart_runs_of}
use Rattle.stats.specs.Rows.{run_end}
use Rattle.stats.proofs.RunByRun.{run_at, run_after, run_within}
use Rattle.emit.specs.Written.{Written}
use Rattle.emit.proofs.Emitting.{Emitting, emitting_start, emitting_next, emitting_room}

abbrev pub Form : Type 0
Form = ℕ → ℕ → List Run → List ℕ

-- vs are the bytes of a run of size n at start, whatever runs come behind it
abbrev pub Step : Form → ℕ → ℕ → ℕ → ℕ → ℕ → List ℕ → Type 0
Step form b i from start n vs = (rs : List Run) → Apart (start + n) b rs → form i from (run start n ∷ rs) ≡ vs ++ form (i + n) (start + n) rs

-- the bytes up to row i stand, and the run before it ended at from
pub record Rowing (form : Form) (b : ℕ) (xs before : List ℕ) (at p i from : ℕ) (out : List ℕ) : Type 0 where
  pub upto : i ≤ length xs
  pub inside : from ≤ b
  pub ahead : Apart from b (runs_of (drop i xs))
  pub so : Emitting (form 0 0 (runs_of xs)) before at p (form i from (runs_of (drop i xs))) out

-- a run that starts at from or after, is not empty, and ends at b or before
pub record Ahead (from b start size : ℕ) : Type 0 where
  pub after : from ≤ start
  pub some : 1 ≤ size
  pub within : start + size ≤ b

apart_ahead : {a b : ℕ} {r : Run} {rs : List Run} → Apart a b (r ∷ rs) → Ahead a b r.start r.size
apart_ahead (next l q e s) = record { after = l; some = q; within = e }

apart_sooner : {a c b : ℕ} {rs : List Run} → c ≤ a → Apart a b rs → Apart c b rs
apart_sooner h stop = stop
apart_sooner h (next l q e s) = next (le_trans h l) q e s

apart_rest : {a b : ℕ} {r : Run} {rs : List Run} → Apart a b (r ∷ rs) → Apart (r.start + r.size) b rs
apart_rest (next l q e s) = apart_sooner (omega arith) s

module _ (form : Form) (b : ℕ) (xs before : List ℕ) (at : ℕ) where
  pub rowing_start : Rising 0 b xs → Rowing form b xs before at at 0 0 before
  rowing_start r = record { upto = omega arith; inside = omega arith; ahead = apart_runs_of r; so = emitting_start (form 0 0 (runs_of xs)) before at }

  module _ {p i from : ℕ} {out : List ℕ} (s : Rowing form b xs before at p i from out) (h : i < length xs) (start j : ℕ) (a : start ≡ get_or xs i 0) (l : j ≡ run_end xs i) where
    here : runs_of (drop i xs) ≡ run start (j - i) ∷ runs_of (drop j xs)
    here = rw (a, l) (run_at xs i h)

    pub rowing_ahead : Ahead from b start (j - i)
    rowing_ahead = apart_ahead (rw here at s.ahead)

    behind : Apart (start + (j - i)) b (runs_of (drop j xs))
    behind = apart_rest (rw here at s.ahead)

    pub rowing_within : (i < j) × (j ≤ length xs)
    rowing_within = rw l (run_after xs i, run_within xs i h)

    pub rowing_room : (vs : List ℕ) → Step form b i from start (j - i) vs → at + length (form 0 0 (runs_of xs)) ≤ length before → p + length vs ≤ length out
    rowing_room vs e r = emitting_room s.so vs _ (ap (form i from) here ∙ e (runs_of (drop j xs)) behind) r

    pub rowing_next : {vs out' : List ℕ} {q : ℕ} → Written vs p out out' q → Step form b i from start (j - i) vs → Rowing form b xs before at q j (start + (j - i)) out'
    rowing_next w e =
        let k : i + (j - i) ≡ j = omega (arith, rowing_within.0) in
        record {
          upto = rowing_within.1;
          inside = rowing_ahead.within;
          ahead = behind;
          so = rw k at (emitting_next s.so w (ap (form i from) here ∙ e (runs_of (drop j xs)) behind));
        }

  -- what is left when the rows are through
  pub rowing_done : {p i from : ℕ} {out : List ℕ} → Rowing form b xs before at p i from out → length xs ≤ i → Emitting (form 0 0 (runs_of xs)) before at p (form (length xs) from []) out
  unfolding runs_of
  rowing_done {p} {i} {from} {out} s h =
      let e : i ≡ length xs = omega (arith, s.upto) in
      let d : drop i xs ≡ [] = drop_of_length-le xs h in
      let m : Emitting (form 0 0 (runs_of xs)) before at p (form i from []) out = rw d at s.so in
      rw e at m
