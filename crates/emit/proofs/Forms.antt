-- The forms that are written run by run: runs and missing.
-- Assumes nothing.
use mathlib.Core.Path.{◌≡◌, refl}
use mathlib.Core.List.{List, [], ◌∷◌, ◌++◌, append-nil}
use Prim.Native.Nat.{ℕ, zero, suc, ◌+◌, ◌-◌, ◌≤◌}
use native.Mathlib.Nat.{add-zero, add-suc, suc-add}
use native.Mathlib.Omega.{arith}
use Rattle.model.specs.Lists.{range, complement, run, runs_of, spread}
use Rattle.model.proofs.Runs.{spread-runs_of}
use Rattle.lists.specs.Lists.{list_layout}
use Rattle.lists.proofs.Bytes.{layout_append}
use Rattle.missing.specs.Missing.{missing_layout}
use Rattle.runs.specs.Runs.{runs_bytes, runs_layout}
use Rattle.emit.proofs.Rowing.{Form, Step}

-- ---- runs

unfoldable pub runs_form : ℕ → Form
runs_form w i from rs = runs_bytes w i rs

pub runs_whole : (w : ℕ) (xs : List ℕ) → runs_form w 0 0 (runs_of xs) ≡ runs_layout w xs
unfolding runs_form runs_layout
runs_whole w xs = refl

pub runs_step : (w b i from start n : ℕ) → Step (runs_form w) b i from start n (runs_bytes w i (run start n ∷ []))
unfolding runs_form runs_bytes
runs_step w b i from start n rs a = rw append-nil

pub runs_end : (w i from : ℕ) → runs_form w i from [] ≡ []
unfolding runs_form runs_bytes
runs_end w i from = refl

-- ---- missing: before each run the holes between it and the run before

unfoldable pub missing_form : ℕ → Form
missing_form span i from rs = list_layout 2 (complement from span (spread rs))

pub missing_whole : (span : ℕ) (xs : List ℕ) → missing_form span 0 0 (runs_of xs) ≡ missing_layout span xs
unfolding missing_form missing_layout
missing_whole span xs = rw spread-runs_of

-- no hole in a run that starts where the last one ended
complement-run : (a b n : ℕ) (ys : List ℕ) → complement a b (range a n ++ ys) ≡ complement (a + n) b ys
unfolding range complement
complement-run a b zero ys = rw add-zero
complement-run a b (suc n) ys =
    let e : a - a ≡ 0 = omega arith in
    rw (e, complement-run (suc a) b n ys, suc-add, add-suc)

complement_step : (from b start n : ℕ) (ys : List ℕ) → 1 ≤ n → complement from b (range start n ++ ys) ≡ range from (start - from) ++ complement (start + n) b ys
unfolding range complement
complement_step from b start zero ys h = absurd (omega arith)
complement_step from b start (suc n) ys h = rw (complement-run (suc start) b n ys, suc-add, add-suc)

pub missing_step : (span i from start n : ℕ) → 1 ≤ n → Step (missing_form span) span i from start n (list_layout 2 (range from (start - from)))
unfolding missing_form spread
missing_step span i from start n h rs a = rw (complement_step from span start n (spread rs) h) (layout_append 2 _ _)

pub missing_end : (span i from : ℕ) → missing_form span i from [] ≡ list_layout 2 (range from (span - from))
unfolding missing_form spread complement
missing_end span i from = refl
