-- Values that rise below the span: what the check tests, and what it shows of the list.
-- Assumes nothing.
use Rattle.std.proofs.Common.{◌≡◌, ℕ, suc, ◌+◌, ◌-◌, ◌<◌, ◌≤◌, Bool, true, ◌&&◌, ltb, List, length, get_or, refl, ◌∙◌, ⊎_elim, arith, ltb-true, lt-ltb}
use Rattle.model.specs.Tests.{both, all, tabulate}
use Rattle.model.specs.Lists.{Rising}
use Rattle.model.proofs.Tests.{both_true, both_left, both_right, all_at, all_from, all_step, last_or_before, length-tabulate, get_or-tabulate, same_test}
use Rattle.model.proofs.Counted.{and_both}
use Rattle.model.proofs.Windows.{windows_apart}
use Rattle.model.proofs.Rising.{rising_tests, rising_below, rising_strict}
use Rattle.lists.specs.Lists.{climbs, rises_below}

-- ---- the check's loop: i pairs were compared
pub record Climbing (f : ℕ → ℕ) (m : ℕ) (ok : Bool) (i : ℕ) : Type 0 where
  pub upto : i ≤ m
  pub flag : ok ≡ all (climbs f) i

module _ (f : ℕ → ℕ) where
  pub climbing_start : (m : ℕ) → Climbing f m true 0
  unfolding all
  climbing_start m = record { upto = omega arith; flag = refl }

  pub climbing_next : {m i : ℕ} {ok : Bool} (u v : ℕ) → Climbing f m ok i → i < m → u ≡ f i → v ≡ f (i + 1) → Climbing f m (ok && ltb u v) (i + 1)
  unfolding climbs
  climbing_next {m} {i} {ok} u v s l p q =
      let e : i + 1 ≡ suc i = omega arith in
      record { upto = omega arith; flag = and_both ok (ltb u v) ∙ rw (s.flag, p, q, all_step (climbs f) i, e) }

  -- ---- rising values: the last is the largest

  pub climbs_far : (m : ℕ) → all (climbs f) m ≡ true → (i j : ℕ) → i < j → j ≤ m → f i < f j
  unfolding climbs
  climbs_far m ok i j l h =
      windows_apart f (λ (k : ℕ). suc (f k)) (suc m) (λ k q. omega arith) (λ k q. ltb-true (f k) (f (suc k)) (all_at (climbs f) m ok k (omega arith))) i j l (omega arith)

  module _ (span : ℕ) where
    below_last : (m : ℕ) → all (climbs f) m ≡ true → f m < span → (i : ℕ) → i < suc m → ltb (f i) span ≡ true
    below_last m ok l i h =
        lt-ltb (f i) span (⊎_elim (λ q. rw q l) (λ k. omega (arith, climbs_far m ok i m k (omega arith))) (last_or_before h))

    rises_suc : (m : ℕ) → both (all (climbs f) m) (ltb (f m) span) ≡ both (all (climbs f) m) (all (λ (i : ℕ). ltb (f i) span) (suc m))
    rises_suc m =
        same_test _ _
        (λ e.
        let ok = both_left _ _ e in
        both_true _ _ ok (all_from (λ (i : ℕ). ltb (f i) span) (suc m) (below_last m ok (ltb-true (f m) span (both_right _ _ e)))))
        (λ e. both_true _ _ (both_left _ _ e) (all_at (λ (i : ℕ). ltb (f i) span) (suc m) (both_right _ _ e) m (omega arith)))

    -- the code's answers: no values, or the flag and the last value v
    pub rises_none : {n : ℕ} → n ≡ 0 → true ≡ rises_below f span n
    unfolding rises_below all both
    rises_none e = rw e

    pub rises_end : {n i : ℕ} {ok : Bool} (v : ℕ) → (n ≡ 0 → ⊥) → Climbing f (n - 1) ok i → n - 1 ≤ i → v ≡ f (n - 1) → ok && ltb v span ≡ rises_below f span n
    unfolding rises_below
    rises_end {n} {i} {ok} v z s g e =
        let q : i ≡ n - 1 = omega (arith, s.upto) in
        let m : n ≡ suc (n - 1) = omega arith in
        and_both ok (ltb v span) ∙ rw (s.flag, e, q) (rises_suc (n - 1) ∙ rw (← m))

    -- ---- against the list

    pub rises_rising : (n : ℕ) → rises_below f span n ≡ true → Rising 0 span (tabulate f n)
    unfolding rises_below
    rises_rising n ok =
        let size = length-tabulate f n in
        let val : (i : ℕ) → i < n → get_or (tabulate f n) i 0 ≡ f i = λ i l. get_or-tabulate f n i 0 l in
        rising_tests 0 span (tabulate f n)
        (λ i l. omega arith)
        (λ i l. let h : i < n = omega arith in rw (val i h) (ltb-true (f i) span (all_at (λ (j : ℕ). ltb (f j) span) n (both_right _ _ ok) i h)))
        (λ i l. let h : suc i < n = omega arith in rw (val i (omega arith), val (suc i) h) (climbs_far (n - 1) (both_left _ _ ok) i (suc i) (omega arith) (omega arith)))

    pub rising_rises : {a : ℕ} {xs : List ℕ} → Rising a span xs → ((i : ℕ) → i < length xs → f i ≡ get_or xs i 0) → rises_below f span (length xs) ≡ true
    unfolding rises_below climbs
    rising_rises {a} {xs} r e =
        both_true _ _
        (all_from (climbs f) (length xs - 1) (λ i l. rw (e i (omega arith), e (suc i) (omega arith)) (lt-ltb _ _ (rising_strict r i (suc i) (omega arith) (omega arith)))))
        (all_from (λ (i : ℕ). ltb (f i) span) (length xs) (λ i l. rw (e i l) (lt-ltb _ _ (rising_below r i l))))
