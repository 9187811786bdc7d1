-- What the loops over rows ask at each run, for rows of either width.
-- Assumes nothing.
use mathlib.Core.Path.{◌≡◌, refl, sym, ◌∙◌}
use mathlib.Core.List.{List, [], ◌∷◌, append-nil}
use Prim.Native.Nat.{ℕ, ◌+◌, ◌-◌, ◌*◌, ◌<◌, ◌≤◌}
use lib.ListN.{length, get_or}
use Rattle.model.specs.Lists.{Rising, range, run, positions_of}
use Rattle.model.proofs.Ranges.{length-range}
use Rattle.model.proofs.Rising.{rising_from, rising_below}
use Rattle.lists.specs.Lists.{list_layout}
use Rattle.lists.proofs.Bytes.{length_layout}
use Rattle.missing.specs.Missing.{missing_layout}
use Rattle.runs.specs.Runs.{runs_bytes, runs_layout}
use Rattle.stats.specs.Rows.{run_end}
use Rattle.stats.proofs.RunByRun.{run_after, run_within}
use Rattle.emit.specs.Written.{Written}
use Rattle.emit.proofs.Emitting.{Emitting, emitting_next, emitting_room, emitting_end}
use Rattle.emit.proofs.Pieces.{length-entry}
use Rattle.emit.proofs.Rowing.{Step, Rowing, Ahead}
use Rattle.emit.proofs.Forms.{runs_form, runs_whole, runs_step, runs_end, missing_form, missing_whole, missing_step, missing_end}
use Rattle.emit.proofs.Passing.{Passing, ahead_rows, room_rows, next_rows, done_rows, pass_next, pass_end}

-- a row, and the end of its run
pub row_at : {a b : ℕ} {rows : List ℕ} → Rising a b rows → (i : ℕ) → i < length rows → (a ≤ get_or rows i 0) × (get_or rows i 0 < b)
row_at r i h = (rising_from r i h, rising_below r i h)

pub ends : (rows : List ℕ) (i : ℕ) {j : ℕ} → i < length rows → j ≡ run_end rows i → (i < j) × (j ≤ length rows)
ends rows i h l = rw l (run_after rows i, run_within rows i h)

size_range : (w a n : ℕ) → length (list_layout w (range a n)) ≡ n * w
size_range w a n = length_layout w (range a n) ∙ rw length-range

-- ---- runs

module _ (w base : ℕ) (rows before : List ℕ) (at : ℕ) (r : Rising base (base + 4294967295) rows) where
  module _ {p i : ℕ} {out : List ℕ} (s : Passing (runs_form w) base 4294967295 rows before at p i out) (h : i < length rows) {start j : ℕ} (a : start ≡ get_or rows i 0 - base) (l : j ≡ run_end rows i) where
    pub runs_fits : at + length (runs_layout w (positions_of base rows)) ≤ length before → p + (w + 4) ≤ length out
    runs_fits k =
        let m = room_rows (runs_form w) base 4294967295 rows before at r s.so h a l (runs_bytes w i (run start (j - i) ∷ [])) (runs_step w 4294967295 i s.from start (j - i)) (rw runs_whole k) in
        rw (← length-entry w i start (j - i)) m

    pub runs_next : {q : ℕ} {out' : List ℕ} → Written (runs_bytes w i (run start (j - i) ∷ [])) p out out' q → Passing (runs_form w) base 4294967295 rows before at q j out'
    runs_next wr = pass_next (runs_form w) base 4294967295 rows before at r s.so h a l wr (runs_step w 4294967295 i s.from start (j - i))

  pub runs_done : {p i : ℕ} {out : List ℕ} → Passing (runs_form w) base 4294967295 rows before at p i out → length rows ≤ i → Written (runs_layout w (positions_of base rows)) at before out p
  runs_done s h = rw runs_whole at (pass_end (runs_form w) base 4294967295 rows before at r (runs_end w) s h)

-- ---- missing

module _ (span base : ℕ) (rows before : List ℕ) (at : ℕ) (r : Rising base (base + span) rows) (k : at + length (missing_layout span (positions_of base rows)) ≤ length before) where
  module _ {p i from : ℕ} {out : List ℕ} (s : Rowing (missing_form span) span (positions_of base rows) before at p i from out) (h : i < length rows) {start j : ℕ} (a : start ≡ get_or rows i 0 - base) (l : j ≡ run_end rows i) where
    pub missing_ahead : Ahead from span start (j - i)
    missing_ahead = ahead_rows (missing_form span) base span rows before at r s h a l

    holes : Step (missing_form span) span i from start (j - i) (list_layout 2 (range from (start - from)))
    holes = missing_step span i from start (j - i) missing_ahead.some

    pub missing_fits : p + (start - from) * 2 ≤ length out
    missing_fits =
        let m = room_rows (missing_form span) base span rows before at r s h a l (list_layout 2 (range from (start - from))) holes (rw missing_whole k) in
        rw (← size_range 2 from (start - from)) m

    pub missing_next : {q to : ℕ} {out' : List ℕ} → Written (list_layout 2 (range from (start - from))) p out out' q → to ≡ start + (j - i) → Rowing (missing_form span) span (positions_of base rows) before at q j to out'
    missing_next wr t = rw t (next_rows (missing_form span) base span rows before at r s h a l wr holes)

  module _ {p i from : ℕ} {out : List ℕ} (s : Rowing (missing_form span) span (positions_of base rows) before at p i from out) (h : length rows ≤ i) where
    left : Emitting (missing_layout span (positions_of base rows)) before at p (list_layout 2 (range from (span - from))) out
    left = rw (missing_whole, missing_end) at (done_rows (missing_form span) base span rows before at r s h)

    pub missing_last : p + (span - from) * 2 ≤ length out
    missing_last = rw (← size_range 2 from (span - from)) (emitting_room left (list_layout 2 (range from (span - from))) [] (sym (append-nil _)) k)

    pub missing_done : {q : ℕ} {out' : List ℕ} → Written (list_layout 2 (range from (span - from))) p out out' q → Written (missing_layout span (positions_of base rows)) at before out' q
    missing_done wr = emitting_end (emitting_next left wr (sym (append-nil _))) refl
