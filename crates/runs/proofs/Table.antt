-- Reading a table of runs: entries inside the bytes, and what a flag loop over them keeps.
-- Assumes nothing.
use Rattle.std.proofs.Common.{◌≡◌, ℕ, ◌+◌, ◌*◌, ◌/◌, ◌<◌, ◌≤◌, Bool, true, ◌&&◌, eqb, leb, List, refl, ap, zero-add, div-mul-le_self, add-one, arith}
use Rattle.std.proofs.Math.Bool.{and_assoc}
use Rattle.model.specs.Tests.{all, total}
use Rattle.model.proofs.Counted.{and_both}
use Rattle.fields.specs.Le.{le}
use Rattle.search.specs.Search.{entry}
use Rattle.runs.specs.Runs.{stride_of, run_start, run_size, run_before, least, fits, run_fits, runs_stand}
use Rattle.runs.specs.Asked.{entry_of}
use Rattle.runs.specs.declared.Entry.{Entry}

pub fits_is : (start size before low rows most : ℕ)
    → (((leb low start && leb 1 size) && leb (start + size) most) && eqb before rows) ≡ fits start size before low rows most
unfolding fits
fits_is start size before low rows most = rw (and_assoc (leb low start && leb 1 size) (leb (start + size) most) (eqb before rows)) (rw and_assoc (simp and_both))

-- an entry from its three fields
pub entry_is : (w : ℕ) (xs : List ℕ) (i : ℕ) {at v start size before : ℕ} → at ≡ i * stride_of w → v ≡ w → start ≡ le w xs at → size ≡ le 2 xs (v + at) → before ≡ le 2 xs (v + 2 + at)
    → ◌≡◌ {A = Entry} (record { start = start; size = size; before = before }) (entry_of w xs i)
unfolding entry_of entry
entry_is w xs i a v s n b = rw (s, n, b, a, v, zero-add)

-- the entries that the bytes hold are inside
pub held : (bytes w : ℕ) {n : ℕ} → n ≡ bytes / stride_of w → n * stride_of w ≤ bytes
held bytes w e = rw e (div-mul-le_self bytes (stride_of w))

-- ---- the loop over the entries: the flag, the least start of the next run, and the rows so far
pub record Standing (w : ℕ) (xs : List ℕ) (end n i : ℕ) (ok : Bool) (low rows : ℕ) : Type 0 where
  pub within : i ≤ n
  pub flag : ok ≡ all (run_fits w xs end) i
  pub free : low ≡ least w xs i
  pub sum : rows ≡ total (run_size w xs) i
  pub small : rows ≤ i * 65535

pub standing_start : (w : ℕ) (xs : List ℕ) (end n : ℕ) → Standing w xs end n 0 true 0 0
unfolding all least total
standing_start w xs end n = record { within = omega arith; flag = refl; free = refl; sum = refl; small = omega arith }

pub standing_next : (w : ℕ) (xs : List ℕ) (end n : ℕ) {i low rows : ℕ} {ok f : Bool} {e : Entry} → Standing w xs end n i ok low rows → i < n → e ≡ entry_of w xs i → e.size < 65536
    → f ≡ fits e.start e.size e.before low rows end → Standing w xs end n (i + 1) (ok && f) (e.start + e.size + 1) (rows + e.size)
unfolding all least total run_fits entry_of
standing_next w xs end n {i} {low} {rows} {ok} {f} {e} s l q b t =
    let start : e.start ≡ run_start w xs i = ap (λ (x : Entry). x.start) q in
    let size : e.size ≡ run_size w xs i = ap (λ (x : Entry). x.size) q in
    let before : e.before ≡ run_before w xs i = ap (λ (x : Entry). x.before) q in
    record {
      within = omega arith;
      flag = rw (add-one i, and_both, t, s.flag, start, size, before, s.free, s.sum);
      free = rw (add-one i, start, size) (add-one (run_start w xs i + run_size w xs i));
      sum = rw (add-one i, size, s.sum);
      small = omega (arith, s.small);
    }

pub standing_end : (w : ℕ) (xs : List ℕ) (end n count : ℕ) {i low rows : ℕ} {ok : Bool} → Standing w xs end n i ok low rows → n ≤ i → (ok && eqb rows count) ≡ runs_stand w xs end count n
unfolding runs_stand
standing_end w xs end n count {i} s g =
    let e : i ≡ n = omega (arith, s.within) in
    rw (and_both, s.flag, s.sum, e)
