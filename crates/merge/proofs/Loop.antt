-- The merging loop as `join_seeds` runs it: a turn over the words, and its end.
-- Assumes nothing.
use mathlib.Core.Path.{◌≡◌, sym, ap, ◌∙◌}
use mathlib.Core.Logic.{⊎_elim}
use mathlib.Core.List.{List}
use mathlib.Core.Bool.{true}
use Prim.Native.Nat.{ℕ, ◌+◌, ◌*◌, ◌-◌, ◌/◌, ◌%◌, ◌<◌, ◌≤◌}
use native.Mathlib.Omega.{arith}
use lib.ListN.{length}
use Rattle.model.proofs.Tests.{either, never}
use Rattle.stats.specs.declared.Stats.{Stats}
use Rattle.queue.specs.Keys.{key}
use Rattle.queue.specs.Steps.{Popped}
use Rattle.queue.proofs.Keys.{occ_some}
use Rattle.links.specs.declared.Pair.{Pair}
use Rattle.links.specs.Links.{Cuts}
use Rattle.links.specs.Keys.{code, pair_of}
use Rattle.links.specs.Pairs.{admitted, saving, Seeds}
use Rattle.links.specs.Tables.{is_live}
use Rattle.merge.specs.Rule.{none, best}
use Rattle.merge.specs.Steps.{Ready, Taken, cuts_of, offers_of, Merged}
use Rattle.merge.proofs.Joins.{join_end, later_end}
use Rattle.merge.proofs.Queue.{Offer, best_none}
use Rattle.merge.proofs.Adds.{Has, popped_in}
use Rattle.merge.proofs.State.{State, live_is, live_true, ready}
use Rattle.merge.proofs.Turn.{turn_stale, turn_live}
use Rattle.merge.proofs.Steps.{ready_more}

-- what an offer's number says is what it was made of
decoded : (s l m r : ℕ) → l < 65536 → m < 65536 → r < 65536 → pair_of (code s l m r) ≡ record { left = l; middle = m; right = r }
unfolding pair_of
decoded s l m r hl hm hr =
    let k = code s l m r in
    let a : 65535 - k / 4294967296 % 65536 ≡ l = omega arith in
    let b : k / 65536 % 65536 ≡ m = omega arith in
    let c : k % 65536 ≡ r = omega arith in
    λ i. record { left = a i; middle = b i; right = c i }

module _ {f : ℕ → Stats} {n q taken k : ℕ} (t h h₁ : List ℕ) (n16 : n < 65536) (seeds : Seeds f n) (s : State f n t h q taken) (z : 0 < q) (p : Popped h q k h₁) where
  abbrev offer : Offer n (admitted f) (saving f) k
  offer = s.wait.offer k (popped_in p)

  pair_is_lem : pair_of k ≡ record { left = offer.l; middle = offer.m; right = offer.r }
  pair_is_lem =
      let cu = offer.cuts in
      ap pair_of offer.is ∙ decoded (saving f offer.l offer.m offer.r) offer.l offer.m offer.r (omega (arith, cu.lm, cu.mr, cu.rn)) (omega (arith, cu.mr, cu.rn)) (omega (arith, cu.rn))

  -- what taking it asks
  pub turn_asks : (o : Pair) → o ≡ pair_of k
      → (Cuts 65535 o.left o.middle o.right × (o.right * 8 + 8 ≤ length t))
      × (is_live t o.left o.middle o.right ≡ true → Ready 65535 t o.left o.middle o.right)
  turn_asks o e =
      let cu = offer.cuts in
      rw (e ∙ pair_is_lem) (
        (record { lm = cu.lm; mr = cu.mr; rn = omega (arith, cu.rn) }, omega (arith, s.long, cu.rn)),
        λ y'. let y = live_is t offer.l offer.m offer.r y' in ready_more n 65535 t offer.l offer.m offer.r (omega arith) (ready s seeds offer.l offer.m offer.r cu y.0 y.1),
      )

  pub turn : (o : Pair) (t₂ h₂ : List ℕ) (c : ℕ) → o ≡ pair_of k → Taken (q - 1) o.left o.middle o.right t t₂ h₁ h₂ c → State f n t₂ h₂ c (taken + 1)
  turn o t₂ h₂ c e a =
      let b : Taken (q - 1) offer.l offer.m offer.r t t₂ h₁ h₂ c = rw (e ∙ pair_is_lem) at a in
      ⊎_elim
      (λ y'.
      let y = live_is t offer.l offer.m offer.r y' in
      turn_live n16 seeds s z p offer y.0 y.1 (b.live y'))
      (λ y'.
      let r = b.stale y' in
      let st = turn_stale n16 seeds s z p offer (λ x y. never (live_true t offer.l offer.m offer.r x y) y') in
      rw (r.0, r.1, r.2) st)
      (either (is_live t offer.l offer.m offer.r))

-- no offer waits: the plain rule has ended too
module _ {f : ℕ → Stats} {n : ℕ} {t h : List ℕ} {q taken : ℕ} (z : q ≤ 0) (s : State f n t h q taken) where
  last : best (admitted f) (saving f) s.cs ≡ none
  last = best_none n (admitted f) (saving f) (Has h q) s.links s.wait (λ k e. let r = occ_some (key h) q k e in omega (arith, r.1))

  cuts_are : s.cs ≡ cuts_of f n
  unfolding cuts_of
  cuts_are = sym (join_end (admitted f) (saving f) s.turns s.cs last) ∙ s.same

  pub end_count : taken ≡ offers_of f n
  unfolding offers_of
  end_count = omega (arith, s.count, later_end (admitted f) (saving f) s.turns s.cs last)

  pub end_merged : Merged f n t
  end_merged = record { rest = s.tail; first = sym cuts_are ∙ s.first; cuts = rw cuts_are at s.links.chain; stats = s.stats }

-- a key that is taken out was there
pub popped_some : {q k : ℕ} {h h₁ : List ℕ} → Popped h q k h₁ → 0 < q
popped_some {q} {k} {h} p = let r = occ_some (key h) q k (popped_in p) in omega (arith, r.1)
