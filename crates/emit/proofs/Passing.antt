-- A loop over rows of either width, by what its positions are.
-- Assumes nothing.
use mathlib.Core.Path.{◌≡◌, sym, ◌∙◌}
use mathlib.Core.Bool.{false}
use mathlib.Core.List.{List, []}
use Prim.Native.Nat.{ℕ, ◌+◌, ◌-◌, ◌/◌, ◌<◌, ◌≤◌}
use native.Mathlib.Omega.{arith}
use lib.Dec.{eqb}
use lib.ListN.{length, get_or}
use Rattle.model.specs.Lists.{Rising, runs_of, positions_of}
use Rattle.stats.specs.Rows.{run_end}
use Rattle.model.proofs.Positions.{length_positions, get_or_positions, positions_rising}
use Rattle.emit.specs.Written.{Written}
use Rattle.emit.proofs.Emitting.{Emitting, emitting_end}
use Rattle.emit.proofs.Alike.{run-same}
use Rattle.emit.proofs.Rowing.{Form, Step, Rowing, Ahead, rowing_start, rowing_ahead, rowing_room, rowing_next, rowing_done}

-- ---- rows and their positions by index

-- the position p stands at index m
abbrev pub Stands : List ℕ → ℕ → ℕ → Type 0
Stands xs m p = (m < length xs) × (get_or xs m 0 ≡ p)

pub positions_below : (base b : ℕ) {rows : List ℕ} → Rising base (base + b) rows → Rising 0 b (positions_of base rows)
positions_below base b r =
    let e : base - base ≡ 0 = omega arith in
    let f : base + b - base ≡ b = omega arith in
    rw (e, f) at (positions_rising base (omega arith) r)

module _ (base : ℕ) (rows : List ℕ) {i : ℕ} (h : i < length rows) where
  pub row_inside : i < length (positions_of base rows)
  row_inside = rw length_positions h

  pub row_first : {start : ℕ} → start ≡ get_or rows i 0 - base → start ≡ get_or (positions_of base rows) i 0
  row_first a = a ∙ sym (get_or_positions base rows i h)

  pub row_stands : {q : ℕ} → q ≡ get_or rows i 0 - base → Stands (positions_of base rows) i q
  row_stands a = (row_inside, sym (row_first a))

  -- it stands in another word
  pub row_out : {q : ℕ} (k : ℕ) → q ≡ get_or rows i 0 - base → eqb (q / 64) k ≡ false → eqb (get_or (positions_of base rows) i 0 / 64) k ≡ false
  row_out k a e = rw (← row_first a) e

  pub row_end : {b j : ℕ} → Rising base b rows → j ≡ run_end rows i → j ≡ run_end (positions_of base rows) i
  row_end r l = l ∙ sym (run-same base r i h)

-- ---- the loop

-- the bytes up to row i stand, wherever the run before it ended
pub record Passing (form : Form) (base b : ℕ) (rows before : List ℕ) (at p i : ℕ) (out : List ℕ) : Type 0 where
  pub from : ℕ
  pub so : Rowing form b (positions_of base rows) before at p i from out

module _ (form : Form) (base b : ℕ) (rows before : List ℕ) (at : ℕ) (r : Rising base (base + b) rows) where
  pub start_rows : Rowing form b (positions_of base rows) before at at 0 0 before
  start_rows = rowing_start form b (positions_of base rows) before at (positions_below base b r)

  pub pass_start : Passing form base b rows before at at 0 before
  pass_start = record { from = 0; so = start_rows }

  module _ {p i from : ℕ} {out : List ℕ} (s : Rowing form b (positions_of base rows) before at p i from out) (h : i < length rows) {start j : ℕ} (a : start ≡ get_or rows i 0 - base) (l : j ≡ run_end rows i) where
    pub ahead_rows : Ahead from b start (j - i)
    ahead_rows = rowing_ahead form b (positions_of base rows) before at s (row_inside base rows h) start j (row_first base rows h a) (row_end base rows h r l)

    pub room_rows : (vs : List ℕ) → Step form b i from start (j - i) vs → at + length (form 0 0 (runs_of (positions_of base rows))) ≤ length before → p + length vs ≤ length out
    room_rows = rowing_room form b (positions_of base rows) before at s (row_inside base rows h) start j (row_first base rows h a) (row_end base rows h r l)

    pub next_rows : {vs out' : List ℕ} {q : ℕ} → Written vs p out out' q → Step form b i from start (j - i) vs → Rowing form b (positions_of base rows) before at q j (start + (j - i)) out'
    next_rows = rowing_next form b (positions_of base rows) before at s (row_inside base rows h) start j (row_first base rows h a) (row_end base rows h r l)

    pub pass_next : {vs out' : List ℕ} {q : ℕ} → Written vs p out out' q → Step form b i from start (j - i) vs → Passing form base b rows before at q j out'
    pass_next w e = record { from = start + (j - i); so = next_rows w e }

  pub done_rows : {p i from : ℕ} {out : List ℕ} → Rowing form b (positions_of base rows) before at p i from out → length rows ≤ i → Emitting (form 0 0 (runs_of (positions_of base rows))) before at p (form (length rows) from []) out
  done_rows s h = rw length_positions at (rowing_done form b (positions_of base rows) before at s (rw length_positions h))

  pub pass_end : {p i : ℕ} {out : List ℕ} → ((i from : ℕ) → form i from [] ≡ []) → Passing form base b rows before at p i out → length rows ≤ i → Written (form 0 0 (runs_of (positions_of base rows))) at before out p
  pass_end e s h = emitting_end (done_rows s.so h) (e (length rows) s.from)
