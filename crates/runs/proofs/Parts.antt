-- An accepted body of runs taken apart, and what the check's last test decides.
-- Assumes nothing.
use Rattle.std.proofs.Common.{◌≡◌, ℕ, ◌+◌, ◌*◌, ◌/◌, ◌<◌, ◌≤◌, Bool, true, List, length, ⊎_elim, arith, eq-eqb, eqb-true, le-leb, leb-true}
use Rattle.model.specs.Tests.{total}
use Rattle.model.proofs.Sums.{total-least}
use Rattle.model.proofs.Counted.{Count, counted_count, counted_right, both_pass}
use Rattle.model.proofs.Tests.{order, both_true, both_left, both_right, all_at, all_from}
use Rattle.runs.specs.Runs.{stride_of, run_count, run_start, run_size, run_before, least, fits, run_fits, most_of, runs_stand, runs_accepts}

-- ---- one run

pub record Fit (start size before low rows most : ℕ) : Type 0 where
  pub free : low ≤ start
  pub filled : 1 ≤ size
  pub within : start + size ≤ most
  pub exact : before ≡ rows

pub fits-fit : {s z b low rows most : ℕ} → fits s z b low rows most ≡ true → Fit s z b low rows most
unfolding fits
fits-fit {s} {z} {b} {low} {rows} {most} e =
    let e₁ = both_right _ _ e in
    let e₂ = both_right _ _ e₁ in
    record { free = leb-true low s (both_left _ _ e); filled = leb-true 1 z (both_left _ _ e₁); within = leb-true (s + z) most (both_left _ _ e₂); exact = eqb-true b rows (both_right _ _ e₂) }

pub fit-fits : {s z b low rows most : ℕ} → Fit s z b low rows most → fits s z b low rows most ≡ true
unfolding fits
fit-fits {s} {z} {b} {low} {rows} {most} f =
    both_true _ _ (le-leb low s f.free) (both_true _ _ (le-leb 1 z f.filled) (both_true _ _ (le-leb (s + z) most f.within) (eq-eqb b rows f.exact)))

-- ---- the whole body, of n runs

pub record Parts (w : ℕ) (xs : List ℕ) (span count n : ℕ) : Type 0 where
  pub counts : Count span count
  pub sized : n * stride_of w ≡ length xs
  pub fit : (i : ℕ) → i < n → Fit (run_start w xs i) (run_size w xs i) (run_before w xs i) (least w xs i) (total (run_size w xs) i) (most_of w span)
  pub sum : total (run_size w xs) n ≡ count

module _ (w : ℕ) (xs : List ℕ) (span count : ℕ) where
  -- the law by which readers take an accepted body apart
  pub accepts_parts : runs_accepts w xs span count ≡ true → Parts w xs span count (run_count w xs)
  unfolding runs_accepts runs_stand run_fits
  accepts_parts e =
      let e₁ = both_right _ _ e in
      let e₂ = both_right _ _ e₁ in
      record { counts = counted_count span count (both_left _ _ e); sized = eqb-true _ _ (both_left _ _ e₁); fit = λ i l. fits-fit (all_at _ _ (both_left _ _ e₂) i l); sum = eqb-true _ _ (both_right _ _ e₂) }

  pub parts_accepts : Parts w xs span count (run_count w xs) → runs_accepts w xs span count ≡ true
  unfolding runs_accepts runs_stand run_fits
  parts_accepts p =
      both_true _ _ (counted_right span count p.counts) (both_true _ _ (eq-eqb _ _ p.sized) (both_true _ _ (all_from _ _ (λ i l. fit-fits (p.fit i l))) (eq-eqb _ _ p.sum)))

pub parts_few : {w : ℕ} {xs : List ℕ} {span count n : ℕ} → Parts w xs span count n → n ≤ count
parts_few {w} {xs} {n = n} p = rw p.sum at (total-least (run_size w xs) n (λ i l. (p.fit i l).filled))

pub some_run : {w : ℕ} {xs : List ℕ} {span count n : ℕ} → Parts w xs span count n → 0 < n
unfolding total
some_run {n = n} p = ⊎_elim (λ l. l) (λ (g : n ≤ 0). let e : n ≡ 0 = omega arith in omega (arith, p.counts.some, rw e at p.sum)) (order 0 n)

-- ---- the answer of the check where the other tests pass

module _ (w : ℕ) (xs : List ℕ) (span count : ℕ) where
  pub check_stand : {n size most : ℕ} {r : Bool} → n ≡ length xs / stride_of w → size ≡ n * stride_of w → Count span count → size ≡ length xs
      → most ≡ most_of w span → r ≡ runs_stand w xs most count n → r ≡ runs_accepts w xs span count
  unfolding runs_accepts run_count
  check_stand q s c d m e = rw (← q, ← s, ← m) (both_pass (counted_right span count c) (both_pass (eq-eqb _ _ d) e))
