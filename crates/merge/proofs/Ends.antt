-- What merging ends with: neighbours that cost more joined; and after every join the rows counted are those of all seeds.
-- Assumes nothing.
use mathlib.Core.Path.{◌≡◌, ap}
use mathlib.Core.Bool.{Bool, false}
use Prim.Native.Nat.{ℕ, suc, ◌+◌, ◌<◌, ◌≤◌}
use native.Mathlib.Omega.{arith}
use Rattle.model.specs.Lists.{Rising}
use Rattle.stats.specs.declared.Stats.{Stats}
use Rattle.stats.specs.Statistics.{joined, span_of}
use Rattle.cost.specs.Forms.{payload}
use Rattle.links.specs.Pairs.{segment_of, admitted, saving, Seeds}
use Rattle.links.proofs.Segments.{segment_join, refuses}
use Rattle.merge.specs.Rule.{counted, after_joins, cuts_from}
use Rattle.merge.specs.Steps.{cuts_of}
use Rattle.merge.proofs.Cuts.{Meet, meet_order, cuts_rising}
use Rattle.merge.proofs.Joins.{merged_ends, merged_rising, counted-all}

module _ (f : ℕ → Stats) (n : ℕ) where
  pub end_rising : Rising 0 (suc n) (cuts_of f n)
  unfolding cuts_of
  end_rising = merged_rising (admitted f) (saving f) (cuts_from 0 n) (cuts_rising 0 n (suc n) (omega arith))

  -- no neighbouring pair is admitted
  pub end_refused : (l m r : ℕ) → Meet (cuts_of f n) l m r → admitted f l m r ≡ false
  unfolding cuts_of
  end_refused = merged_ends (admitted f) (saving f) (cuts_from 0 n) (cuts_rising 0 n (suc n) (omega arith))

  module _ (seeds : Seeds f n) where
    -- so joins that save nothing are all taken: what is left apart is too long, or costs more joined
    pub end_apart : (l m r : ℕ) → Meet (cuts_of f n) l m r → span_of (segment_of f l r) ≤ 65535
        → 16 + payload (segment_of f l m) + payload (segment_of f m r) < payload (segment_of f l r)
    unfolding admitted
    end_apart l m r w h =
        let o = meet_order end_rising w in
        let e = segment_join seeds l m r o.1 o.2 (omega arith) in
        rw e (refuses (segment_of f l m) (segment_of f m r) (end_refused l m r w) (rw e at h))

module _ {f : ℕ → Stats} {n : ℕ} (s : Seeds f n) where
  -- the rows that the statistics count are those of all seeds, after every join
  pub counts_kept : (adm : ℕ → ℕ → ℕ → Bool) (sav : ℕ → ℕ → ℕ → ℕ) → 0 < n → (k : ℕ)
      → counted (λ l m. (segment_of f l m).count) (after_joins adm sav k (cuts_from 0 n)) ≡ (segment_of f 0 n).count
  unfolding joined
  counts_kept adm sav z k = counted-all n (λ l m. (segment_of f l m).count) (λ l m r p q h. ap (λ (t : Stats). t.count) (segment_join s l m r p q (omega arith))) adm sav z k
