-- On an accepted body of runs: what it names rises below the span and has count rows, and place, select and walk are those of that list.
-- Assumes nothing.
use Rattle.std.proofs.Common.{◌≡◌, ℕ, zero, suc, ◌+◌, ◌-◌, ◌%◌, ◌<◌, ◌≤◌, false, ◌⊎◌, List, [], ◌++◌, length, get_or, drop, sym, ap, ◌∙◌, inl, inr, ⊎_elim, append_assoc, append-nil, add-zero, mod-eq_of_lt, eq-or-lt_of_le, arith}
use native.Mathlib.Nat.{sub-zero}
use lib.Seq.{drop-append-add, drop-append-le}
use Rattle.model.specs.Tests.{flat, total}
use Rattle.model.specs.Lists.{Rising, place_of, walk_of, range, moved}
use Rattle.model.proofs.Sums.{total-le, flat-total}
use Rattle.model.proofs.Windows.{windows_apart, windows_level}
use Rattle.model.proofs.Rising.{rising_wider}
use Rattle.model.proofs.Ranges.{length-range, get_or-range, range_rising, range-drop, below-range, has_past}
use Rattle.model.proofs.Pieces.{Pieces, pieces_rising, pieces_none, pieces_place, pieces_select}
use Rattle.search.specs.Search.{up_to, Cut}
use Rattle.search.proofs.Laws.{find_cut, falls_level, at_most, above}
use Rattle.runs.specs.Runs.{run_start, run_size, run_before, runs_names, least, most_of}
use Rattle.runs.specs.Asked.{entry_of, starts_to, before_to, last_of, place_in, runs_place, nth_of, runs_select, runs_from, runs_rest, runs_walk}
use Rattle.runs.proofs.Parts.{Parts, some_run}

-- the positions of run i
abbrev piece : ℕ → List ℕ → ℕ → List ℕ
piece w xs = λ (i : ℕ). range (run_start w xs i) (run_size w xs i)

-- ---- on any bytes

-- as many positions as the lengths say
pub names-total : (w : ℕ) (xs : List ℕ) (n : ℕ) → length (runs_names w xs n) ≡ total (run_size w xs) n
unfolding runs_names
names-total w xs n = flat-total (piece w xs) (run_size w xs) n (λ i l. length-range (run_start w xs i) (run_size w xs i))

-- the first i runs, and the rest
pub names_split : (w : ℕ) (xs : List ℕ) (i m : ℕ) → runs_names w xs (i + m) ≡ runs_names w xs i ++ runs_from w xs m i 0
unfolding runs_names runs_from flat
names_split w xs i zero = rw (add-zero i, append-nil)
names_split w xs i (suc m) =
    let e : i + suc m ≡ suc i + m = omega arith in
    rw (e, names_split w xs (suc i) m, append_assoc, add-zero (run_start w xs i), sub-zero)

-- ---- on an accepted body

module _ {w : ℕ} {xs : List ℕ} {span count n : ℕ} (p : Parts w xs span count n) where
  -- a run ends before the next starts
  next_free : (i : ℕ) → suc i < n → suc (run_start w xs i + run_size w xs i) ≤ run_start w xs (suc i)
  unfolding least
  next_free i h = (p.fit (suc i) h).free

  ends_before : (i j : ℕ) → i < j → j < n → run_start w xs i + run_size w xs i < run_start w xs j
  ends_before = windows_apart (run_start w xs) (λ (i : ℕ). suc (run_start w xs i + run_size w xs i)) n (λ i l. omega arith) next_free

  starts_rise : (i j : ℕ) → i ≤ j → j < n → run_start w xs i ≤ run_start w xs j
  starts_rise = windows_level (run_start w xs) (λ (i : ℕ). suc (run_start w xs i + run_size w xs i)) n (λ i l. omega arith) next_free

  before_rise : (i j : ℕ) → i ≤ j → j < n → run_before w xs i ≤ run_before w xs j
  before_rise i j l h = rw ((p.fit i (omega arith)).exact, (p.fit j h).exact) (total-le (run_size w xs) i j l)

  -- the rows up to run i and with it
  before_is : (i : ℕ) → i < n → length (runs_names w xs i) ≡ run_before w xs i
  before_is i l = names-total w xs i ∙ sym (p.fit i l).exact

  pieces : Pieces (piece w xs) (run_start w xs) (λ (i : ℕ). run_start w xs i + run_size w xs i) n 0 (most_of w span)
  pieces = record { inside = λ i l. range_rising (run_start w xs i) (run_size w xs i); first = λ i l. omega arith; wide = λ i l. omega arith; last = λ i l. (p.fit i l).within; apart = λ i j l h. omega (arith, ends_before i j l h) }

  -- T3
  pub names_within : Rising 0 (most_of w span) (runs_names w xs n)
  unfolding runs_names
  names_within = pieces_rising n (omega arith) pieces

  pub names_rising : Rising 0 span (runs_names w xs n)
  unfolding most_of
  names_rising = rising_wider (omega arith) (omega arith) names_within

  pub names-length : length (runs_names w xs n) ≡ count
  names-length = names-total w xs n ∙ p.sum

-- ---- T4

module _ {w : ℕ} {xs : List ℕ} {span count n : ℕ} (p : Parts w xs span count n) where
  place_by : (q f : ℕ) → Cut (up_to false (run_start w xs) q) n f → last_of (record { below = 0; present = false }) (λ (i : ℕ). place_in (entry_of w xs i) q) f ≡ place_of (runs_names w xs n) q
  unfolding last_of place_of runs_names place_in entry_of
  place_by q zero c =
      let s = pieces_none n (pieces p) q (λ i l. above (run_start w xs) q i (c.from i (omega arith) l)) in
      rw (s.0, s.1)
  place_by q (suc i) c =
      let l : i < n = c.within in
      let h : run_start w xs i ≤ q = at_most (run_start w xs) q i (c.below i (omega arith)) in
      let s = pieces_place n (pieces p) q i l h (λ j g d. above (run_start w xs) q j (c.from j g d)) in
      let b : length (flat (piece w xs) i) ≡ run_before w xs i = before_is p i l in
      rw (s.0, s.1, b, below-range, has_past (run_start w xs i) (run_size w xs i) q h)

  pub runs_place_lem : (q : ℕ) → runs_place w xs n q ≡ place_of (runs_names w xs n) q
  unfolding runs_place starts_to
  runs_place_lem q = place_by q _ (find_cut (up_to false (run_start w xs) q) n (falls_level (run_start w xs) q n (starts_rise p)))

  -- the run of ordinal k holds it, or is the last
  holds : (k i : ℕ) → Cut (up_to false (run_before w xs) k) n (suc i) → (k - run_before w xs i < run_size w xs i) ⊎ (suc i ≡ n)
  unfolding total
  holds k i c =
      ⊎_elim
      (λ (e : suc i ≡ n). inr e)
      (λ (l : suc i < n).
      let u : k < run_before w xs (suc i) = above (run_before w xs) k (suc i) (c.from (suc i) (omega arith) l) in
      let v : run_before w xs i ≤ k = at_most (run_before w xs) k i (c.below i (omega arith)) in
      inl (omega (arith, (p.fit i (omega arith)).exact, (p.fit (suc i) l).exact)))
      (eq-or-lt_of_le c.within)

  -- ordinal 0 has a run
  first_run : (k : ℕ) → Cut (up_to false (run_before w xs) k) n 0 → ⊥
  unfolding total
  first_run k c = omega (arith, above (run_before w xs) k 0 (c.from 0 (omega arith) (some_run p)), (p.fit 0 (some_run p)).exact)

  before_cut : (k : ℕ) → Cut (up_to false (run_before w xs) k) n (before_to w xs n k)
  unfolding before_to
  before_cut k = find_cut (up_to false (run_before w xs) k) n (falls_level (run_before w xs) k n (before_rise p))

  select_by : (k f : ℕ) → span ≤ 4294967296 → k < count → Cut (up_to false (run_before w xs) k) n f → last_of 0 (λ (i : ℕ). nth_of (entry_of w xs i) k) f ≡ get_or (runs_names w xs n) k 0
  unfolding last_of nth_of entry_of runs_names total most_of
  select_by k zero s h c = absurd (first_run k c)
  select_by k (suc i) s h c =
      let l : i < n = c.within in
      let x = run_start w xs i in
      let z = run_size w xs i in
      let b = run_before w xs i in
      let v : b ≤ k = at_most (run_before w xs) k i (c.below i (omega arith)) in
      let f = p.fit i l in
      let o : k - b < z = ⊎_elim (λ q. q) (λ (e : suc i ≡ n). omega (arith, f.exact, p.sum, ap (λ (m : ℕ). total (run_size w xs) m) e)) (holds k i c) in
      let m : (x + (k - b)) % 4294967296 ≡ x + (k - b) = mod-eq_of_lt (omega (arith, f.within)) in
      let e : length (flat (piece w xs) i) + (k - b) ≡ k = rw (before_is p i l) (omega arith) in
      m ∙ sym (ap (λ (j : ℕ). get_or (flat (piece w xs) n) j 0) (sym e) ∙ pieces_select (piece w xs) n i (k - b) l (rw length-range o) ∙ get_or-range x z (k - b) o)

  pub runs_select_lem : (k : ℕ) → span ≤ 4294967296 → k < count → runs_select w xs n k ≡ get_or (runs_names w xs n) k 0
  unfolding runs_select
  runs_select_lem k s h = select_by k _ s h (before_cut k)

  rest_by : (k f : ℕ) → Cut (up_to false (run_before w xs) k) n f → last_of [] (λ (i : ℕ). runs_from w xs (n - i) i (k - run_before w xs i)) f ≡ drop k (runs_names w xs n)
  unfolding last_of runs_from
  rest_by k zero c = absurd (first_run k c)
  rest_by k (suc i) c =
      let l : i < n = c.within in
      let x = run_start w xs i in
      let z = run_size w xs i in
      let s = k - run_before w xs i in
      let m = n - suc i in
      let r = runs_from w xs m (suc i) 0 in
      let v : run_before w xs i ≤ k = at_most (run_before w xs) k i (c.below i (omega arith)) in
      let g : n - i ≡ suc m = omega arith in
      let a : n ≡ i + suc m = omega arith in
      let e : k ≡ length (runs_names w xs i) + s = rw (before_is p i l) (omega arith) in
      let whole : runs_names w xs n ≡ runs_names w xs i ++ (range x z ++ r) =
      ap (λ (j : ℕ). runs_names w xs j) a ∙ names_split w xs i (suc m) ∙ rw (add-zero x, sub-zero z) in
      let left : drop k (runs_names w xs n) ≡ drop s (range x z ++ r) =
      rw whole (ap (λ (j : ℕ). drop j (runs_names w xs i ++ (range x z ++ r))) e ∙ drop-append-add (runs_names w xs i) (range x z ++ r) s) in
      let cut : drop s (range x z ++ r) ≡ range (x + s) (z - s) ++ r =
      ⊎_elim
      (λ (o : s < z). drop-append-le s (range x z) r (rw length-range (omega arith)) ∙ rw range-drop)
      (λ (q : suc i ≡ n).
      let t : m ≡ 0 = omega arith in
      rw (t, append-nil (range x z), append-nil) (range-drop x z s))
      (holds k i c) in
      rw g (sym (left ∙ cut))

  -- what is walked from ordinal k on
  pub runs_rest_lem : (k : ℕ) → runs_rest w xs n k ≡ drop k (runs_names w xs n)
  unfolding runs_rest
  runs_rest_lem k = rest_by k _ (before_cut k)

  pub runs_walk_lem : (k base room : ℕ) → runs_walk w xs n k base room ≡ moved base (walk_of (runs_names w xs n) k room)
  unfolding runs_walk
  runs_walk_lem k base room = rw (runs_rest_lem k)
