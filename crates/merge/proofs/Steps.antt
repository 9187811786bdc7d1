-- The steps of a join: what the offers after it ask, and that they get it.
-- Assumes nothing.
use mathlib.Core.Path.{◌≡◌, ◌∙◌}
use mathlib.Core.List.{List}
use Prim.Native.Nat.{ℕ, ◌+◌, ◌*◌, ◌<◌, ◌≤◌}
use native.Mathlib.Omega.{arith}
use lib.ListN.{length}
use Rattle.stats.specs.declared.Stats.{Stats}
use Rattle.stats.specs.Statistics.{Neighbours, joined}
use Rattle.links.specs.Links.{Cuts}
use Rattle.links.specs.Tables.{next, prev, stat_at, linked}
use Rattle.links.proofs.Tables.{linked-next, linked-prev, linked_stat, linked_stats}
use Rattle.merge.specs.Steps.{joint_of, Left, Right, Ready}

-- what the offer of the segment before l, read at p, asks
pub left_reads : (n l r p : ℕ) (t : List ℕ) → l < r → r ≤ n → Left t l (stat_at t l) → p ≡ prev t l → Cuts n p l r × Neighbours (stat_at t p) (stat_at t l)
left_reads n l r p t lr rn k e = (record { lm = omega (arith, k.before); mr = lr; rn = rn }, rw e k.fits)

-- what the offer of the segment from r to z asks
pub right_reads : (n l r z : ℕ) (t : List ℕ) → l < r → Right n t r (stat_at t l) → z ≡ next t r → Cuts n l r z × Neighbours (stat_at t l) (stat_at t r)
right_reads n l r z t lr k e = (record { lm = lr; mr = omega (arith, k.after); rn = omega (arith, k.inside) }, k.fits)

-- the records after a join, by what was read of them
pub linking : (l m r : ℕ) (t t' : List ℕ) (a b s : Stats) → a ≡ stat_at t l → b ≡ stat_at t m → s ≡ joined a b → t' ≡ linked l m r s t → t' ≡ linked l m r (joint_of t l m) t
linking l m r t t' a b s ea eb es e = e ∙ rw (es, ea, eb)

-- a larger bound of the cuts
pub ready_more : (n k : ℕ) (t : List ℕ) (l m r : ℕ) → n ≤ k → Ready n t l m r → Ready k t l m r
ready_more n k t l m r h rd = record {
  cuts = record { lm = rd.cuts.lm; mr = rd.cuts.mr; rn = omega (arith, rd.cuts.rn) };
  pair = rd.pair;
  left = rd.left;
  right = λ z. let o = rd.right z in record { after = o.after; inside = omega (arith, o.inside); fits = o.fits };
}

module _ (n l m r : ℕ) (t t' : List ℕ) (rd : Ready n t l m r) (long : r * 8 + 8 ≤ length t) (is : t' ≡ linked l m r (joint_of t l m) t) where
  abbrev s : Stats
  s = joint_of t l m

  abbrev t₁ : List ℕ
  t₁ = linked l m r s t

  lr : l < r
  lr = omega (arith, rd.cuts.lm, rd.cuts.mr)

  stat_l : stat_at t₁ l ≡ s
  stat_l = linked_stat l m r s t rd.cuts.lm rd.cuts.mr long

  left₁ : 0 < l → Left t₁ l (stat_at t₁ l)
  left₁ z =
      let o = rd.left z in
      let ep : prev t₁ l ≡ prev t l = linked-prev l m r s t rd.cuts.lm rd.cuts.mr long l (λ e. omega (arith, lr)) in
      let es : stat_at t₁ (prev t l) ≡ stat_at t (prev t l) =
      linked_stats l m r s t rd.cuts.lm rd.cuts.mr long (prev t l) (λ e. omega (arith, o.before)) in
      record { before = omega (arith, o.before); fits = rw (stat_l, ep, es) o.fits }

  right₁ : 0 < next t₁ r → Right n t₁ r (stat_at t₁ l)
  right₁ z =
      let en : next t₁ r ≡ next t r = linked-next l m r s t rd.cuts.lm rd.cuts.mr long r (λ e. omega (arith, lr)) (λ e. omega (arith, rd.cuts.mr)) in
      let o = rd.right (omega arith) in
      let es : stat_at t₁ r ≡ stat_at t r = linked_stats l m r s t rd.cuts.lm rd.cuts.mr long r (λ e. omega (arith, lr)) in
      record { after = omega (arith, o.after); inside = omega (arith, o.inside); fits = rw (stat_l, es) o.fits }

  pub left_asks : 0 < l → Left t' l (stat_at t' l)
  left_asks = rw is left₁

  pub right_asks : 0 < next t' r → Right n t' r (stat_at t' l)
  right_asks = rw is right₁
