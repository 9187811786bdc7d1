-- What a walk of runs has written so far: one run into the lent slice, and run after run.
-- Assumes nothing.
use Rattle.std.proofs.Common.{◌≡◌, ℕ, suc, ◌+◌, ◌-◌, ◌%◌, ◌<◌, ◌≤◌, min, List, [], ◌++◌, length, take, drop, sym, refl, ap, ◌∙◌, append_assoc, add-zero, zero-add, add-one, arith}
use lib.Seq.{sets, take-nil}
use Rattle.model.specs.Lists.{range, moved}
use Rattle.model.specs.Answers.{Walked}
use Rattle.model.proofs.Ranges.{length-range, range-append}
use Rattle.model.proofs.Taking.{drop_past}
use Rattle.model.proofs.Writing.{moved-range, Filled, filled_start, filled_length, filled_more, filled_end, walks_none}
use Rattle.runs.specs.Runs.{run_start, run_size, run_before}
use Rattle.runs.specs.Asked.{entry_of, before_to, runs_from, runs_rest, runs_walk}
use Rattle.runs.specs.declared.Entry.{Entry}
use Rattle.runs.proofs.Found.{last_none, last_some}

-- ---- one run: the numbers from first on are its positions, counted from base

pub written_end : (out : List ℕ) (at base start skip n : ℕ) {f first : ℕ} → f ≡ (base + start) % 4294967296 → first ≡ (f + skip) % 4294967296
    → sets out at (moved first (range 0 n)) ≡ sets out at (moved base (range (start + skip) n))
written_end out at base start skip n {f} {first} p q =
    let e : first ≡ (base + (start + skip)) % 4294967296 = omega arith in
    rw (moved-range base (start + skip) 0 n e, add-zero)

-- ---- the walk at run i, of which `left` positions are to be left out

pub record Walking (w : ℕ) (xs : List ℕ) (n base : ℕ) (rows before after : List ℕ) (left done i : ℕ) : Type 0 where
  pub filled : Filled base 0 rows before after done
  pub rest : runs_from w xs (n - i) i left ≡ drop done rows

pub walking_start : (w : ℕ) (xs : List ℕ) (n base : ℕ) (before : List ℕ) (i skip : ℕ) → Walking w xs n base (runs_from w xs (n - i) i skip) before before skip 0 i
walking_start w xs n base before i skip = record { filled = filled_start base 0 _ before (omega arith); rest = refl }

module _ {w : ℕ} {xs : List ℕ} {n base : ℕ} {rows before after : List ℕ} {left done i : ℕ} (s : Walking w xs n base rows before after left done i) where
  here : i < n → drop done rows ≡ range (run_start w xs i + left) (run_size w xs i - left) ++ runs_from w xs (n - (i + 1)) (i + 1) 0
  unfolding runs_from
  here l =
      let q : n - i ≡ suc (n - (i + 1)) = omega arith in
      sym s.rest ∙ rw (q, add-one i)

  module _ {e : Entry} {r : ℕ} (l : i < n) (q : e ≡ entry_of w xs i) (m : r ≡ min (e.size - left) (length after - done)) where
    size_is : e.size ≡ run_size w xs i
    unfolding entry_of
    size_is = ap (λ (x : Entry). x.size) q

    start_is : e.start ≡ run_start w xs i
    unfolding entry_of
    start_is = ap (λ (x : Entry). x.start) q

    -- what was written of the run, and what was not
    pub walking_wrote : {out : List ℕ} → out ≡ sets after done (moved base (range (e.start + left) r)) → Filled base 0 rows before out (done + r)
    walking_wrote o =
        let z = run_size w xs i - left in
        let a = run_start w xs i + left in
        let t = filled_length s.filled in
        let y : z ≡ r + (z - r) = omega (arith, size_is) in
        let c : range a z ≡ range a r ++ range (a + r) (z - r) = ap (λ (k : ℕ). range a k) y ∙ range-append a r (z - r) in
        let d : drop done rows ≡ range a r ++ (range (a + r) (z - r) ++ runs_from w xs (n - (i + 1)) (i + 1) 0) = here l ∙ rw (c, append_assoc) in
        let f = filled_more s.filled (range a r) _ d (rw length-range (omega (arith, s.filled.room))) in
        rw (o, start_is) (rw (zero-add, length-range) at f)

    pub walking_next : (done + r ≡ length before → ⊥) → runs_from w xs (n - (i + 1)) (i + 1) 0 ≡ drop (done + r) rows
    walking_next d =
        let z = run_size w xs i - left in
        let a = run_start w xs i + left in
        let t = filled_length s.filled in
        let k : r ≡ length (range a z) = omega (arith, size_is, length-range a z, s.filled.room, d) in
        rw k (sym (drop_past rows (range a z) _ done (here l)))

  pub walking_end : n ≤ i → Walked (moved base (take (length before) rows)) before after done
  unfolding runs_from
  walking_end g =
      let q : n - i ≡ 0 = omega arith in
      filled_end s.filled (sym s.rest ∙ rw q)

-- ---- the walk from an ordinal

pub walked_none : (w : ℕ) (xs : List ℕ) (n k base : ℕ) (out : List ℕ) {found : ℕ} → found ≡ before_to w xs n k → found ≡ 0 → Walked (runs_walk w xs n k base (length out)) out out 0
unfolding runs_walk runs_rest moved
walked_none w xs n k base out e z =
    walks_none out (rw (← last_none [] (λ (i : ℕ). runs_from w xs (n - i) i (k - run_before w xs i)) e z, take-nil))

pub walked_rest : (w : ℕ) (xs : List ℕ) (n k base : ℕ) {before after : List ℕ} {found r : ℕ} {e : Entry} → found ≡ before_to w xs n k → (found ≡ 0 → ⊥) → e ≡ entry_of w xs (found - 1)
    → Walked (moved base (take (length before) (runs_from w xs (n - (found - 1)) (found - 1) (k - e.before)))) before after r → Walked (runs_walk w xs n k base (length before)) before after r
unfolding runs_walk runs_rest entry_of
walked_rest w xs n k base {found = found} {e = e} q s t h =
    let b : e.before ≡ run_before w xs (found - 1) = ap (λ (x : Entry). x.before) t in
    rw (← last_some [] (λ (i : ℕ). runs_from w xs (n - i) i (k - run_before w xs i)) q s) (rw b at h)
