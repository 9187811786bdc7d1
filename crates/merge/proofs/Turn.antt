-- A turn of the merging loop: an offer is taken, and is stale or is the plain rule's choice.
-- Assumes nothing.
use mathlib.Core.Path.{◌≡◌, refl, sym, ap, ◌∙◌}
use mathlib.Core.Logic.{⊎_elim}
use mathlib.Core.List.{List, ◌∷◌}
use mathlib.Core.Bool.{true}
use Prim.Native.Nat.{ℕ, suc, ◌+◌, ◌*◌, ◌-◌, ◌<◌, ◌≤◌}
use native.Mathlib.Omega.{arith}
use lib.ListN.{length}
use lib.Dec.{ltb}
use borrow.Author.Tests.{lt-ltb, le-ltb, ltb-true}
use Rattle.model.specs.Tests.{both}
use Rattle.model.proofs.Tests.{order, same_or_not, both_left, both_right, both_true, both_first}
use Rattle.stats.specs.declared.Stats.{Stats}
use Rattle.queue.specs.Steps.{Popped}
use Rattle.links.specs.Keys.{code}
use Rattle.links.specs.Pairs.{segment_of, admitted, saving, Seeds}
use Rattle.links.specs.Tables.{next, prev, stat_at, linked}
use Rattle.links.proofs.Tables.{linked-length, linked_left, linked_gone, linked-next, linked_right, linked-prev, linked_stat, linked_stats}
use Rattle.merge.specs.Rule.{pair, one_if, without, best, pairs_with, after_joins, later_offers}
use Rattle.merge.specs.Steps.{Added, joint_of, left_is, left_key, right_is, right_key, Joining}
use Rattle.merge.proofs.Cuts.{Meet, In, meet_left, meet_middle, meet_three, in_without, length_without, without_miss}
use Rattle.merge.proofs.Joins.{join_step, later_step}
use Rattle.merge.proofs.Links.{Linked, Joined, next_order, linked-before, linked_join}
use Rattle.merge.proofs.Around.{around}
use Rattle.merge.proofs.Queue.{Offer, top_is_best, stale, after_join}
use Rattle.merge.proofs.Adds.{Has, added_as, added-kept, added_new, added_only, popped_top, popped_old, popped_kept}
use Rattle.merge.proofs.State.{State, pair_here, pair_stats}

module _ {f : ℕ → Stats} {n : ℕ} {t h : List ℕ} {q taken k : ℕ} (n16 : n < 65536) (seeds : Seeds f n) (s : State f n t h q taken) (z : 0 < q) {h₁ : List ℕ} (p : Popped h q k h₁)
    (o : Offer n (admitted f) (saving f) k) where
  pub turn_stale : (next t o.l ≡ o.m → next t o.m ≡ o.r → ⊥) → State f n t h₁ (q - 1) (taken + 1)
  turn_stale st = record {
    cs = s.cs;
    tail = s.tail;
    turns = s.turns;
    first = s.first;
    long = s.long;
    links = s.links;
    back = s.back;
    stats = s.stats;
    heap = p.heap;
    wait = stale n (admitted f) (saving f) n16 (Has h q) s.links s.wait o (Has h₁ (q - 1)) (popped_old p) (popped_kept p) st;
    same = s.same;
    count = omega (arith, s.count);
    fuel = s.fuel;
  }

  module _ (p₁ : next t o.l ≡ o.m) (p₂ : next t o.m ≡ o.r) where
    abbrev l : ℕ
    l = o.l

    abbrev m : ℕ
    m = o.m

    abbrev r : ℕ
    r = o.r

    abbrev t' : List ℕ
    t' = linked l m r (joint_of t l m) t

    lm : l < m
    lm = o.cuts.lm

    mr : m < r
    mr = o.cuts.mr

    rn : r ≤ n
    rn = o.cuts.rn

    lr : l < r
    lr = omega (arith, lm, mr)

    long : r * 8 + 8 ≤ length t
    long = omega (arith, s.long, rn)

    here : Meet s.cs l m r
    here = pair_here s seeds l m r o.cuts p₁ p₂

    joins : Joined (next t) (next t') l m r
    joins = record {
      left = linked_left l m r (joint_of t l m) t lm mr long;
      gone = linked_gone l m r (joint_of t l m) t lm mr long;
      else = linked-next l m r (joint_of t l m) t lm mr long;
    }

    links' : Linked n (next t') (without m s.cs)
    links' = linked_join joins s.links here

    -- what the records say of another cut than l and m is what they said
    next_else : (a : ℕ) → (a ≡ l → ⊥) → 0 < next t' a → next t' a ≡ next t a
    next_else a nl h = joins.else a nl (λ e. omega (arith, ap (next t') e, joins.gone))

    prev_else : (b : ℕ) → (b ≡ r → ⊥) → prev t' b ≡ prev t b
    prev_else = linked-prev l m r (joint_of t l m) t lm mr long

    back' : (a b : ℕ) → next t' a ≡ b → 0 < b → prev t' b ≡ a
    back' a b e zb = ⊎_elim
        (λ x. ap (prev t') (sym e ∙ ap (next t') x ∙ joins.left) ∙ linked_right l m r (joint_of t l m) t lm mr long ∙ sym x)
        (λ nl.
        let ea : next t a ≡ b = sym (next_else a nl (omega arith)) ∙ e in
        let nm : a ≡ m → ⊥ = λ x. omega (arith, ap (next t') x, joins.gone) in
        prev_else b (λ x. nm (sym (s.back a b ea zb) ∙ s.back m b (p₂ ∙ sym x) zb)) ∙ s.back a b ea zb)
        (same_or_not a l)

    stat_joined : stat_at t' l ≡ segment_of f l r
    stat_joined = linked_stat l m r (joint_of t l m) t lm mr long ∙ pair_stats s seeds l m r o.cuts p₁ p₂

    stats' : (a b : ℕ) → next t' a ≡ b → 0 < b → stat_at t' a ≡ segment_of f a b
    stats' a b e zb = ⊎_elim
        (λ x. let eb : b ≡ r = sym e ∙ ap (next t') x ∙ joins.left in rw (x, eb) stat_joined)
        (λ nl. linked_stats l m r (joint_of t l m) t lm mr long a nl ∙ s.stats a b (sym (next_else a nl (omega arith)) ∙ e) zb)
        (same_or_not a l)

    first' : without m s.cs ≡ 0 ∷ without m s.tail
    first' = ap (without m) s.first ∙ without_miss m 0 s.tail (λ e. omega (arith, lm))

    linked_first : Linked n (next t') (0 ∷ without m s.tail)
    linked_first = rw first' at links'

    in_first : In (0 ∷ without m s.tail) l
    in_first = rw first' at (in_without {m = m} (meet_left here) (λ e. omega (arith, lm)))

    -- the cuts before and after the joined segment, and the statistics of the segments there

    abbrev P : ℕ
    P = prev t' l

    abbrev Z : ℕ
    Z = next t' r

    before : 0 < l → next t' P ≡ l
    before z = linked-before (prev t') linked_first back' l in_first z

    before_order : 0 < l → P < l
    before_order z = omega (arith, (next_order links' P (omega (arith, before z))).0, before z)

    left_is_lem : left_is t' l ≡ both (ltb 0 l) (admitted f P l r)
    unfolding admitted
    left_is_lem = ⊎_elim
        (λ z. rw (stats' P l (before z) z, stat_joined))
        (λ e. both_first _ _ (le-ltb 0 l e) ∙ sym (both_first _ _ (le-ltb 0 l e)))
        (order 0 l)

    left_key_lem : both (ltb 0 l) (admitted f P l r) ≡ true → left_key t' l r ≡ code (saving f P l r) P l r
    unfolding saving
    left_key_lem e = let z = ltb-true 0 l (both_left _ _ e) in rw (stats' P l (before z) z, stat_joined)

    right_is_lem : right_is t' l r ≡ both (ltb 0 Z) (admitted f l r Z)
    unfolding admitted
    right_is_lem = ⊎_elim
        (λ z. rw (stats' r Z refl z, stat_joined))
        (λ e. both_first _ _ (le-ltb 0 Z e) ∙ sym (both_first _ _ (le-ltb 0 Z e)))
        (order 0 Z)

    right_key_lem : both (ltb 0 Z) (admitted f l r Z) ≡ true → right_key t' l r ≡ code (saving f l r Z) l r Z
    unfolding saving
    right_key_lem e = let z = ltb-true 0 Z (both_left _ _ e) in rw (stats' r Z refl z, stat_joined)

    new_pairs : pairs_with (admitted f) l r (without m s.cs) ≡ one_if (both (ltb 0 l) (admitted f P l r)) + one_if (both (ltb 0 Z) (admitted f l r Z))
    new_pairs = ap (pairs_with (admitted f) l r) first' ∙ around (admitted f) l r P linked_first in_first joins.left (omega (arith, mr)) (λ a e z. back' a l e z)

    chosen : best (admitted f) (saving f) s.cs ≡ pair l m r
    chosen = top_is_best n (admitted f) (saving f) n16 (Has h q) s.links s.wait o (popped_top p) p₁ p₂

    turns_is : s.turns ≡ suc (s.turns - 1)
    turns_is = omega (arith, s.fuel, meet_three here)

    module _ {t₂ h₂ : List ℕ} {c : ℕ} (j : Joining (q - 1) o.l o.m o.r t t₂ h₁ h₂ c) where
      add_left : Added (q - 1) (both (ltb 0 l) (admitted f P l r)) (code (saving f P l r) P l r) h₁ j.halfway j.offered
      add_left = added_as left_is_lem left_key_lem (rw j.tables at j.left)

      add_right : Added j.offered (both (ltb 0 Z) (admitted f l r Z)) (code (saving f l r Z) l r Z) j.halfway h₂ c
      add_right = added_as right_is_lem right_key_lem (rw j.tables at j.right)

      offers' : (x : ℕ) → Has h₂ c x → Offer n (admitted f) (saving f) x
      offers' x e = ⊎_elim
          (λ e'. ⊎_elim
          (λ e''. s.wait.offer x (popped_old p x e''))
          (λ y.
          let zl : 0 < l = ltb-true 0 l (both_left _ _ y.0) in
          record { l = P; m = l; r = r; is = y.1; ok = both_right _ _ y.0; cuts = record { lm = before_order zl; mr = lr; rn = rn } })
          (added_only add_left x e'))
          (λ y.
          let or = next_order links' r (ltb-true 0 Z (both_left _ _ y.0)) in
          record { l = l; m = r; r = Z; is = y.1; ok = both_right _ _ y.0; cuts = record { lm = lr; mr = or.0; rn = or.1 } })
          (added_only add_right x e)

      kept' : (x : ℕ) → Has h q x → (x ≡ k → ⊥) → Has h₂ c x
      kept' x e ne = added-kept add_right x (added-kept add_left x (popped_kept p x e ne))

      before' : (a : ℕ) → 0 < l → next t' a ≡ l → admitted f a l r ≡ true → Has h₂ c (code (saving f a l r) a l r)
      before' a z e ok =
          let ea : P ≡ a = back' a l e z in
          let yes' : admitted f P l r ≡ true = rw ea ok in
          rw (← ea) (added-kept add_right _ (added_new add_left (both_true _ _ (lt-ltb 0 l z) yes')))

      after' : 0 < Z → admitted f l r Z ≡ true → Has h₂ c (code (saving f l r Z) l r Z)
      after' z ok = added_new add_right (both_true _ _ (lt-ltb 0 Z z) ok)

      turn_go : State f n t' h₂ c (taken + 1)
      turn_go = record {
        cs = without m s.cs;
        tail = without m s.tail;
        turns = s.turns - 1;
        first = first';
        long = linked-length l m r (joint_of t l m) t lm mr long ∙ s.long;
        links = links';
        back = back';
        stats = stats';
        heap = j.right.heap;
        wait = after_join n (admitted f) (saving f) n16 (Has h q) s.links s.wait o (next t') (Has h₂ c) p₁ p₂ joins offers' kept' before' after';
        same = sym (join_step (admitted f) (saving f) (s.turns - 1) s.cs l m r chosen) ∙ ap (λ (u : ℕ). after_joins (admitted f) (saving f) u s.cs) (sym turns_is) ∙ s.same;
        count = omega (arith, s.count, later_step (admitted f) (saving f) (s.turns - 1) s.cs l m r chosen, ap (λ (u : ℕ). later_offers (admitted f) (saving f) u s.cs) turns_is, new_pairs, add_left.count, add_right.count);
        fuel = omega (arith, length_without (meet_middle here), meet_three here, s.fuel);
      }

      pub turn_live : State f n t₂ h₂ c (taken + 1)
      turn_live = rw j.tables turn_go
