-- The layout of a rising list that fits is accepted, and names the list.
-- Assumes nothing.
use Rattle.std.proofs.Common.{◌≡◌, ℕ, zero, suc, ◌+◌, ◌*◌, ◌%◌, ◌^◌, ◌<◌, ◌≤◌, true, List, [], ◌∷◌, ◌++◌, length, sym, refl, ap, ◌∙◌, append_assoc, add-zero, mod-eq_of_lt, suc-mul, zero-add, zero-mul, mul-div_cancel, arith, length-append, ext_get_or}
use Rattle.fields.specs.Le.{digits}
use Rattle.fields.proofs.Laws.{length_digits}
use Rattle.fields.proofs.Tables.{le_behind}
use Rattle.model.specs.Tests.{tabulate, total}
use Rattle.model.specs.Lists.{Rising, Run, run, spread, runs_of, Apart}
use Rattle.model.proofs.Tests.{length-tabulate, get_or-tabulate}
use Rattle.model.proofs.Sums.{total_within, total_front, total-same}
use Rattle.model.proofs.Rising.{rising_room}
use Rattle.model.proofs.Runs.{spread-runs_of, apart_runs_of, spread_rising, nth, sizes, apart_at, apart_next, sizes_total}
use Rattle.search.specs.Search.{entry}
use Rattle.search.proofs.Entries.{entry_behind}
use Rattle.runs.specs.Runs.{stride_of, run_count, run_start, run_size, run_before, run_at, runs_names, least, most_of, runs_accepts, runs_bytes, runs_layout}
use Rattle.runs.proofs.Parts.{Fit, Parts, parts_accepts}
use Rattle.runs.proofs.Back.{names-spread}

-- ---- the fields of laid out runs

head_length : (w s z b : ℕ) → length (digits w s ++ digits 2 z ++ digits 2 b) ≡ stride_of w
head_length w s z b = simp (length-append, length_digits) (omega arith)

pub length_bytes : (w b : ℕ) (rs : List Run) → length (runs_bytes w b rs) ≡ length rs * stride_of w
unfolding runs_bytes
length_bytes w b [] = rw zero-mul
length_bytes w b (r ∷ rs) = rw (length-append, head_length, length_bytes w (b + r.size) rs, suc-mul) (omega arith)

record Laid (w : ℕ) (xs : List ℕ) (i : ℕ) (r : Run) (b : ℕ) : Type 0 where
  start : run_start w xs i ≡ r.start % 256 ^ w
  size : run_size w xs i ≡ r.size % 256 ^ 2
  before : run_before w xs i ≡ b % 256 ^ 2

laid_first : (w : ℕ) (r : Run) (b : ℕ) (rest : List ℕ) → Laid w (digits w r.start ++ digits 2 r.size ++ digits 2 b ++ rest) 0 r b
unfolding entry
laid_first w r b rest =
    let start = digits w r.start in
    let size = digits 2 r.size in
    let n : length start ≡ w = length_digits w r.start in
    let m : length (start ++ size) ≡ w + 2 = rw (length-append, n, length_digits) in
    let e₀ : 0 + 0 * stride_of w ≡ 0 = omega arith in
    let e₁ : w + 0 * stride_of w ≡ w = omega arith in
    let e₂ : w + 2 + 0 * stride_of w ≡ w + 2 = omega arith in
    let f : start ++ size ++ digits 2 b ++ rest ≡ start ++ (size ++ (digits 2 b ++ rest)) = simp append_assoc in
    record {
      start = rw (e₀, f) (le_behind w r.start 0 [] (size ++ (digits 2 b ++ rest)) refl);
      size = rw (e₁, append_assoc (start ++ size) (digits 2 b) rest) (le_behind 2 r.size w start (digits 2 b ++ rest) n);
      before = rw e₂ (le_behind 2 b (w + 2) (start ++ size) rest m);
    }

laid : (w b : ℕ) (rs : List Run) (i : ℕ) → i < length rs → Laid w (runs_bytes w b rs) i (nth rs i) (b + total (sizes rs) i)
unfolding runs_bytes total
laid w b [] i h = absurd (omega arith)
laid w b (r ∷ rs) zero h = rw (add-zero b) (laid_first w r b (runs_bytes w (b + r.size) rs))
laid w b (r ∷ rs) (suc i) h =
    let s = laid w (b + r.size) rs i (omega arith) in
    let head = digits w r.start ++ digits 2 r.size ++ digits 2 b in
    let rest = runs_bytes w (b + r.size) rs in
    let n : length head ≡ stride_of w = head_length w r.start r.size b in
    let e : b + total (sizes (r ∷ rs)) (suc i) ≡ b + r.size + total (sizes rs) i = rw (total_front (sizes (r ∷ rs)) i) (omega arith) in
    rw e (record {
      start = entry_behind w 0 (stride_of w) head rest i n ∙ s.start;
      size = entry_behind 2 w (stride_of w) head rest i n ∙ s.size;
      before = entry_behind 2 (w + 2) (stride_of w) head rest i n ∙ s.before;
    })

-- ---- the layout of runs that stand apart, with few enough rows for their fields

module _ (w span : ℕ) {rs : List Run} (a : Apart 0 (most_of w span) rs) (some : 1 ≤ length (spread rs)) (few : length (spread rs) ≤ 65535) where
  rows_to : (i : ℕ) → i < length rs → total (sizes rs) i + sizes rs i ≤ 65535
  rows_to i l = omega (arith, few, sizes_total rs, total_within (sizes rs) i (length rs) l)

  start_at_lem : (i : ℕ) → i < length rs → run_start w (runs_bytes w 0 rs) i ≡ (nth rs i).start
  unfolding most_of
  start_at_lem i l = let s = apart_at a i l in (laid w 0 rs i l).start ∙ mod-eq_of_lt (omega (arith, s.to, s.filled))

  size_at : (i : ℕ) → i < length rs → run_size w (runs_bytes w 0 rs) i ≡ sizes rs i
  size_at i l = (laid w 0 rs i l).size ∙ mod-eq_of_lt (omega (arith, rows_to i l))

  before_at : (i : ℕ) → i < length rs → run_before w (runs_bytes w 0 rs) i ≡ total (sizes rs) i
  before_at i l = (laid w 0 rs i l).before ∙ rw zero-add (mod-eq_of_lt (omega (arith, rows_to i l)))

  totals : (i : ℕ) → i ≤ length rs → total (run_size w (runs_bytes w 0 rs)) i ≡ total (sizes rs) i
  totals i h = total-same (run_size w (runs_bytes w 0 rs)) (sizes rs) i (λ j l. size_at j (omega arith))

  low : (i : ℕ) → i < length rs → least w (runs_bytes w 0 rs) i ≤ (nth rs i).start
  unfolding least
  low zero h = omega arith
  low (suc i) h = rw (start_at_lem i (omega arith), size_at i (omega arith)) (apart_next a i h)

  fit_at : (i : ℕ) → i < length rs
      → Fit (run_start w (runs_bytes w 0 rs) i) (run_size w (runs_bytes w 0 rs) i) (run_before w (runs_bytes w 0 rs) i) (least w (runs_bytes w 0 rs) i) (total (run_size w (runs_bytes w 0 rs)) i) (most_of w span)
  fit_at i l =
      let s = apart_at a i l in
      rw (start_at_lem i l, size_at i l, before_at i l, totals i (omega arith)) (record { free = low i l; filled = s.filled; within = s.to; exact = refl })

  pub bytes_parts : Parts w (runs_bytes w 0 rs) span (length (spread rs)) (length rs)
  unfolding most_of
  bytes_parts =
      record {
        counts = record { some = some; within = omega (arith, rising_room (omega arith) (spread_rising a)); most = few };
        sized = sym (length_bytes w 0 rs);
        fit = fit_at;
        sum = totals (length rs) (omega arith) ∙ sizes_total rs;
      }

  runs_back : tabulate (run_at w (runs_bytes w 0 rs)) (length rs) ≡ rs
  unfolding run_at
  runs_back =
      ext_get_or (run 0 0) _ rs (length-tabulate _ (length rs))
      (λ i l. let h : i < length rs = omega (arith, length-tabulate (run_at w (runs_bytes w 0 rs)) (length rs)) in get_or-tabulate _ (length rs) i (run 0 0) h ∙ rw (start_at_lem i h, size_at i h))

  pub bytes_names : runs_names w (runs_bytes w 0 rs) (length rs) ≡ spread rs
  bytes_names = names-spread w (runs_bytes w 0 rs) (length rs) ∙ ap spread runs_back

-- as many entries as runs
pub bytes_count : (w b : ℕ) (rs : List Run) → run_count w (runs_bytes w b rs) ≡ length rs
unfolding run_count
bytes_count w b rs = rw (length_bytes w b rs) (mul-div_cancel (length rs) (omega arith))

-- ---- T1

module _ (w span : ℕ) {ys : List ℕ} (r : Rising 0 (most_of w span) ys) (some : 1 ≤ length ys) (few : length ys ≤ 65535) where
  pub layout_accepted : runs_accepts w (runs_layout w ys) span (length ys) ≡ true
  unfolding runs_layout
  layout_accepted =
      let e = spread-runs_of ys in
      let p = bytes_parts w span (apart_runs_of r) (rw e some) (rw e few) in
      parts_accepts w (runs_bytes w 0 (runs_of ys)) span (length ys) (rw (bytes_count w 0 (runs_of ys)) (rw e at p))

  pub layout_named : runs_names w (runs_layout w ys) (run_count w (runs_layout w ys)) ≡ ys
  unfolding runs_layout
  layout_named =
      let e = spread-runs_of ys in
      rw (bytes_count w 0 (runs_of ys)) (bytes_names w span (apart_runs_of r) (rw e some) (rw e few) ∙ e)
