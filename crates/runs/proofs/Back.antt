-- An accepted body of runs is the layout of what it names.
-- Assumes nothing.
use Rattle.std.proofs.Common.{◌≡◌, ℕ, zero, suc, ◌+◌, ◌-◌, ◌*◌, ◌<◌, ◌≤◌, List, [], ◌∷◌, ◌++◌, length, take, drop, sym, ap, ◌∙◌, append_assoc, append-nil, le_of_eq, add-zero, add_assoc, suc-mul, zero-add, zero-mul, arith, length-append, take_all, drop-drop, take-add}
use Rattle.fields.specs.Le.{Bytes, le, digits}
use Rattle.fields.proofs.Laws.{digits_le}
use Rattle.model.specs.Tests.{tabulate}
use Rattle.model.specs.Lists.{range, Run, spread, Apart, stop, next}
use Rattle.model.proofs.Ranges.{length-range}
use Rattle.model.proofs.Runs.{runs_of-spread, spread-tabulate, apart_behind}
use Rattle.search.specs.Search.{entry}
use Rattle.search.proofs.Entries.{slot}
use Rattle.runs.specs.Runs.{stride_of, run_start, run_size, run_before, run_at, runs_names, least, runs_bytes, runs_layout}
use Rattle.runs.proofs.Parts.{Parts, some_run}
use Rattle.runs.proofs.Names.{names-total}

-- what n runs name is what they spread to
pub names-spread : (w : ℕ) (xs : List ℕ) (n : ℕ) → runs_names w xs n ≡ spread (tabulate (run_at w xs) n)
unfolding runs_names run_at
names-spread w xs n = sym (spread-tabulate (run_at w xs) n)

-- ---- one run more

bytes_behind : (w before : ℕ) (rs : List Run) (r : Run)
    → runs_bytes w before (rs ++ (r ∷ [])) ≡ runs_bytes w before rs ++ (digits w r.start ++ digits 2 r.size ++ digits 2 (before + length (spread rs)))
unfolding runs_bytes spread
bytes_behind w before [] r = rw (add-zero before, append-nil)
bytes_behind w before (q ∷ rs) r =
    let e : length (range q.start q.size ++ spread rs) ≡ q.size + length (spread rs) = length-append (range q.start q.size) (spread rs) ∙ rw length-range in
    rw (e, bytes_behind w (before + q.size) rs r, add_assoc) (simp append_assoc)

-- the bytes of entry i
entry_bytes_lem : (w : ℕ) (xs : List ℕ) (i : ℕ) → Bytes xs → (i + 1) * stride_of w ≤ length xs
    → digits w (run_start w xs i) ++ digits 2 (run_size w xs i) ++ digits 2 (run_before w xs i) ≡ take (stride_of w) (drop (i * stride_of w) xs)
unfolding entry
entry_bytes_lem w xs i b h =
    let at = i * stride_of w in
    let e₁ : at + w ≡ w + at = omega arith in
    let e₂ : w + at + 2 ≡ w + 2 + at = omega arith in
    let s : digits w (le w xs (0 + at)) ≡ take w (drop (0 + at) xs) = digits_le w xs (0 + at) b (omega arith) in
    let z : digits 2 (le 2 xs (w + at)) ≡ take 2 (drop (w + at) xs) = digits_le 2 xs (w + at) b (omega arith) in
    let k : digits 2 (le 2 xs (w + 2 + at)) ≡ take 2 (drop (w + 2 + at) xs) = digits_le 2 xs (w + 2 + at) b (omega arith) in
    let o : take (w + 4) (drop at xs) ≡ take w (drop at xs) ++ (take 2 (drop (w + at) xs) ++ take 2 (drop (w + 2 + at) xs)) =
    take-add w 4 (drop at xs) ∙ ap (λ (l : List ℕ). take w (drop at xs) ++ l) (take-add 2 2 (drop w (drop at xs)) ∙ rw (drop-drop w at xs, drop-drop 2 (at + w) xs, e₁, e₂)) in
    rw (s, z, k, zero-add, append_assoc) (sym o)

-- ---- the whole table

module _ {w : ℕ} {xs : List ℕ} {span count n : ℕ} (p : Parts w xs span count n) where
  apart_to : (m : ℕ) → m < n → Apart 0 (run_start w xs m + run_size w xs m) (tabulate (run_at w xs) (suc m))
  unfolding tabulate least run_at
  apart_to zero h = next {a = 0} {b = run_start w xs 0 + run_size w xs 0} {r = run_at w xs 0} (omega arith) (p.fit 0 h).filled (omega arith) stop
  apart_to (suc m) h =
      let f = p.fit (suc m) h in
      apart_behind {r = run_at w xs (suc m)} (apart_to m (omega arith)) (omega arith) f.free f.filled (omega arith)

  bytes_to : Bytes xs → (m : ℕ) → m ≤ n → runs_bytes w 0 (tabulate (run_at w xs) m) ≡ take (m * stride_of w) xs
  unfolding tabulate runs_bytes run_at
  bytes_to b zero h = rw zero-mul
  bytes_to b (suc m) h =
      let rows : 0 + length (spread (tabulate (run_at w xs) m)) ≡ run_before w xs m = zero-add _ ∙ ap length (sym (names-spread w xs m)) ∙ names-total w xs m ∙ sym (p.fit m h).exact in
      let room : (m + 1) * stride_of w ≤ length xs = slot (stride_of w) m (le_of_eq p.sized) h in
      bytes_behind w 0 (tabulate (run_at w xs) m) (run_at w xs m)
      ∙ rw (rows, bytes_to b m (omega arith), entry_bytes_lem w xs m b room, suc-mul) (sym (take-add (m * stride_of w) (stride_of w) xs))

  -- T2
  pub layout_names : Bytes xs → runs_layout w (runs_names w xs n) ≡ xs
  unfolding runs_layout
  layout_names b =
      let e : n ≡ suc (n - 1) = omega (arith, some_run p) in
      let a : Apart 0 (run_start w xs (n - 1) + run_size w xs (n - 1)) (tabulate (run_at w xs) n) = rw (← e) at (apart_to (n - 1) (omega (arith, some_run p))) in
      rw (names-spread w xs n, runs_of-spread a, bytes_to b n (omega arith)) (take_all (n * stride_of w) xs (le_of_eq (sym p.sized)))
