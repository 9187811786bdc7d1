-- What the merging loop keeps, over the records t and the queue h, and what it lets an offer ask.
-- Assumes nothing.
use mathlib.Core.Path.{◌≡◌, refl, sym}
use mathlib.Core.List.{List, ◌∷◌}
use mathlib.Core.Bool.{true}
use Prim.Native.Nat.{ℕ, ◌+◌, ◌*◌, ◌-◌, ◌<◌, ◌≤◌}
use native.Mathlib.Omega.{arith}
use lib.ListN.{length}
use borrow.Author.Tests.{eqb-true, eq-eqb}
use Rattle.model.proofs.Tests.{both_left, both_right, both_true}
use Rattle.stats.specs.declared.Stats.{Stats}
use Rattle.queue.specs.Keys.{Heap}
use Rattle.links.specs.Links.{Cuts}
use Rattle.links.specs.Pairs.{segment_of, admitted, saving, Seeds}
use Rattle.links.specs.Tables.{base, next, prev, stat_at, is_live}
use Rattle.links.proofs.Segments.{segment_join, segment_neighbours}
use Rattle.merge.specs.Rule.{cuts_from, after_joins, later_offers, merged, offers}
use Rattle.merge.specs.Steps.{joint_of, Ready}
use Rattle.merge.proofs.Cuts.{In, Meet, meet_left}
use Rattle.merge.proofs.Links.{Linked, next_order, next_meets, linked-before}
use Rattle.merge.proofs.Queue.{Waiting}
use Rattle.merge.proofs.Offers.{offers_most}
use Rattle.merge.proofs.Adds.{Has}

pub record State (f : ℕ → Stats) (n : ℕ) (t h : List ℕ) (q taken : ℕ) : Type 0 where
  pub cs : List ℕ
  pub tail : List ℕ
  pub turns : ℕ
  pub first : cs ≡ 0 ∷ tail
  pub long : length t ≡ base n
  pub links : Linked n (next t) cs
  pub back : (a b : ℕ) → next t a ≡ b → 0 < b → prev t b ≡ a
  pub stats : (a b : ℕ) → next t a ≡ b → 0 < b → stat_at t a ≡ segment_of f a b
  pub heap : Heap h q
  pub wait : Waiting n (admitted f) (saving f) cs (Has h q)
  pub same : after_joins (admitted f) (saving f) turns cs ≡ merged (admitted f) (saving f) (cuts_from 0 n)
  pub count : taken + q + later_offers (admitted f) (saving f) turns cs ≡ offers (admitted f) (saving f) (cuts_from 0 n)
  pub fuel : length cs ≤ turns + 2

pub live_is : (t : List ℕ) (l m r : ℕ) → is_live t l m r ≡ true → (next t l ≡ m) × (next t m ≡ r)
unfolding is_live
live_is t l m r e = (eqb-true _ _ (both_left _ _ e), eqb-true _ _ (both_right _ _ e))

pub live_true : (t : List ℕ) (l m r : ℕ) → next t l ≡ m → next t m ≡ r → is_live t l m r ≡ true
unfolding is_live
live_true t l m r p q = both_true _ _ (eq-eqb _ _ p) (eq-eqb _ _ q)

module _ {f : ℕ → Stats} {n : ℕ} {t h : List ℕ} {q taken : ℕ} (s : State f n t h q taken) (seeds : Seeds f n) where
  -- offers taken and keys waiting are offers of the rule
  pub state_most : taken + q ≤ 3 * (n - 1)
  state_most = omega (arith, s.count, offers_most (admitted f) (saving f) n)

  -- the cut before a cut above 0 is the one that the table says
  before_cut : (l : ℕ) → In s.cs l → 0 < l → next t (prev t l) ≡ l
  before_cut l w z = linked-before (prev t) (rw s.first at s.links) s.back l (rw s.first at w) z

  module _ (l m r : ℕ) (cu : Cuts n l m r) (p : next t l ≡ m) (p' : next t m ≡ r) where
    pub pair_here : Meet s.cs l m r
    pair_here = next_meets s.links p p' (omega (arith, cu.lm)) (omega (arith, cu.mr))

    -- the joined segment's statistics
    pub pair_stats : joint_of t l m ≡ segment_of f l r
    pair_stats = rw (s.stats l m p (omega (arith, cu.lm)), s.stats m r p' (omega (arith, cu.mr))) (sym (segment_join seeds l m r cu.lm cu.mr cu.rn))

    pub ready : Ready n t l m r
    ready = record {
      cuts = cu;
      pair = rw (s.stats l m p (omega (arith, cu.lm)), s.stats m r p' (omega (arith, cu.mr))) (segment_neighbours seeds l m r cu.lm cu.mr cu.rn);
      left = λ z.
          let b = before_cut l (meet_left pair_here) z in
          let o = next_order s.links (prev t l) (omega arith) in
          let less : prev t l < l = omega arith in
          record {
            before = less;
            fits = rw (pair_stats, s.stats (prev t l) l b z) (segment_neighbours seeds (prev t l) l r less (omega (arith, cu.lm, cu.mr)) cu.rn);
          };
      right = λ z.
          let o = next_order s.links r z in
          record {
            after = o.0;
            inside = o.1;
            fits = rw (pair_stats, s.stats r (next t r) refl z) (segment_neighbours seeds l r (next t r) (omega (arith, cu.lm, cu.mr)) o.0 o.1);
          };
    }
