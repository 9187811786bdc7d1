-- From rows to segments: where the rows between cuts are known, the statistics of a segment are those of its rows.
-- Assumes nothing.
use mathlib.Core.Path.{◌≡◌, sym, ◌∙◌}
use mathlib.Core.Logic.{⊎_elim}
use mathlib.Core.List.{List, ◌++◌}
use Prim.Native.Nat.{ℕ, zero, suc, ◌+◌, ◌-◌, ◌<◌, ◌≤◌}
use native.Mathlib.Omega.{arith}
use lib.ListN.{length}
use Rattle.model.specs.Lists.{Rising}
use Rattle.model.proofs.Tests.{same_or_not}
use Rattle.model.proofs.Rising.{rising_split}
use Rattle.stats.specs.declared.Stats.{Stats}
use Rattle.stats.specs.Statistics.{stats_of}
use Rattle.stats.proofs.Joining.{stats_append, stats_sound, stats_neighbours}
use Rattle.links.specs.Pairs.{total_from, segment_of, admitted, saving, Seeds, rows_admitted, rows_saving}
use Rattle.merge.specs.Rule.{merged, offers, cuts_from}
use Rattle.merge.specs.Steps.{cuts_of, offers_of}
use Rattle.merge.proofs.Same.{merged-same, offers-same}

-- `rows l m` are the rows of the seeds from the cut l to the cut m, and f i are the statistics of seed i
module _ (n : ℕ) (rows : ℕ → ℕ → List ℕ) (some : (l m : ℕ) → l < m → m ≤ n → 1 ≤ length (rows l m))
    (cut : (l m r : ℕ) → l < m → m < r → r ≤ n → rows l r ≡ rows l m ++ rows m r)
    (f : ℕ → Stats) (seeds : (i : ℕ) → i < n → f i ≡ stats_of (rows i (suc i))) where
  total_rows : (l k : ℕ) → l + k < n → total_from f l k ≡ stats_of (rows l (suc (l + k)))
  unfolding total_from
  total_rows l zero h = let e : suc l ≡ suc (l + 0) = omega arith in rw (← e) (seeds l (omega arith))
  total_rows l (suc k) h =
      let e : suc (l + suc k) ≡ suc (suc (l + k)) = omega arith in
      let parts = cut l (suc (l + k)) (suc (suc (l + k))) (omega arith) (omega arith) (omega arith) in
      rw (e, total_rows l k (omega arith), seeds (suc (l + k)) (omega arith), parts)
      (sym (stats_append (rows l (suc (l + k))) (rows (suc (l + k)) (suc (suc (l + k)))) (some l (suc (l + k)) (omega arith) (omega arith)) (some (suc (l + k)) (suc (suc (l + k))) (omega arith) (omega arith))))

  pub segment_rows : (l m : ℕ) → l < m → m ≤ n → segment_of f l m ≡ stats_of (rows l m)
  unfolding segment_of
  segment_rows l m p q =
      let e : suc (l + (m - suc l)) ≡ m = omega arith in
      total_rows l (m - suc l) (omega arith) ∙ rw e

  -- so the plain rule over statistics is the plain rule over rows
  agree : (l m r : ℕ) → l < m → m < r → r ≤ n → (admitted f l m r ≡ rows_admitted rows l m r) × (saving f l m r ≡ rows_saving rows l m r)
  unfolding admitted saving rows_admitted rows_saving
  agree l m r p q h =
      let a = segment_rows l m p (omega arith) in
      let b = segment_rows m r q h in
      (rw (a, b), rw (a, b))

  pub cuts_rows : cuts_of f n ≡ merged (rows_admitted rows) (rows_saving rows) (cuts_from 0 n)
  unfolding cuts_of
  cuts_rows = merged-same n (admitted f) (rows_admitted rows) (saving f) (rows_saving rows) agree

  pub offers_rows : offers_of f n ≡ offers (rows_admitted rows) (rows_saving rows) (cuts_from 0 n)
  unfolding offers_of
  offers_rows = offers-same n (admitted f) (rows_admitted rows) (saving f) (rows_saving rows) agree

  -- rows that rise make seeds that can be merged
  module _ {b : ℕ} (fits : b ≤ 4294967295) (rising : Rising 0 b (rows 0 n)) where
    from_cut : (l : ℕ) → l < n → (a : ℕ) × (a ≤ b) × Rising a b (rows l n)
    from_cut l h = ⊎_elim
        (λ e. rw e (0, omega arith, rising))
        (λ ne. let o = rising_split (rows 0 l) (rows l n) (omega arith) (rw (cut 0 l n (omega arith) h (omega arith)) at rising) in (o.mid, o.high, o.back))
        (same_or_not l 0)

    window : (l r : ℕ) → l < r → r ≤ n → (a : ℕ) × (c : ℕ) × (a ≤ c) × (c ≤ b) × Rising a c (rows l r)
    window l r p q =
        let o = from_cut l (omega arith) in
        ⊎_elim
        (λ e. rw e (o.0, b, o.1, omega arith, o.2))
        (λ ne. let y = rising_split (rows l r) (rows r n) o.1 (rw (cut l r n p (omega arith) (omega arith)) at o.2) in (o.0, y.mid, y.low, y.high, y.front))
        (same_or_not r n)

    pub rows_seeds : Seeds f n
    rows_seeds = record {
      sound = λ i h.
          let o = window i (suc i) (omega arith) (omega arith) in
          rw (seeds i h) (stats_sound o.4 (some i (suc i) (omega arith) (omega arith)) (omega (arith, o.3)));
      apart = λ i h.
          let o = window i (suc (suc i)) (omega arith) (omega arith) in
          let y = rising_split (rows i (suc i)) (rows (suc i) (suc (suc i))) o.2 (rw (cut i (suc i) (suc (suc i)) (omega arith) (omega arith) (omega arith)) at o.4) in
          let k = stats_neighbours y.front y.back (some i (suc i) (omega arith) (omega arith)) (some (suc i) (suc (suc i)) (omega arith) (omega arith)) y.high (omega (arith, o.3)) in
          rw (seeds i (omega arith), seeds (suc i) h) k.apart;
    }
