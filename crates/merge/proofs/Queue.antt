-- The queue with stale offers answers as the plain rule does: its largest key that is not stale is the best pair.
-- `has k` says that the key k is in the queue.
-- Assumes nothing.
use mathlib.Core.Path.{◌≡◌, refl, sym, ap, ◌∙◌}
use mathlib.Core.Logic.{⊎_elim}
use mathlib.Core.List.{List}
use mathlib.Core.Bool.{Bool, true}
use Prim.Native.Nat.{ℕ, suc, ◌<◌, ◌≤◌}
use native.Mathlib.Omega.{arith}
use Rattle.model.specs.Lists.{Rising}
use Rattle.model.proofs.Tests.{same_or_not, never}
use Rattle.links.specs.Links.{Cuts}
use Rattle.links.specs.Keys.{code}
use Rattle.merge.specs.Rule.{none, pair, without, best}
use Rattle.merge.proofs.Cuts.{Meet, meet_order}
use Rattle.merge.proofs.Best.{Best, chosen}
use Rattle.merge.proofs.Joins.{by_choice, best_meets}
use Rattle.merge.proofs.Links.{Linked, Joined, chain_next, next_meets, linked_join}

pub along3 : (P : ℕ → ℕ → ℕ → Type 0) {a b c x y z : ℕ} → a ≡ x → b ≡ y → c ≡ z → P x y z → P a b c
along3 P p q r h = rw (p, q, r) h

-- the greater key saves more, or as much from further left
key_order : (n : ℕ) {l m r a b c : ℕ} (s t : ℕ) → n < 65536 → Cuts n l m r → Cuts n a b c → code t a b c ≤ code s l m r → (t ≤ s) × (s ≤ t → l ≤ a)
key_order n s t h p q le = omega arith

digits : (s l m r t a b c : ℕ) → l < 65536 → m < 65536 → r < 65536 → a < 65536 → b < 65536 → c < 65536 → code t a b c ≡ code s l m r → (a ≡ l) × (b ≡ m) × (c ≡ r)
digits s l m r t a b c hl hm hr ha hb hc e = let st : s ≡ t = omega arith in omega arith

pub key-same : (n : ℕ) {l m r a b c : ℕ} (s t : ℕ) → n < 65536 → Cuts n l m r → Cuts n a b c → code t a b c ≡ code s l m r → (a ≡ l) × (b ≡ m) × (c ≡ r)
key-same n {l} {m} {r} {a} {b} {c} s t h p q e = digits s l m r t a b c (omega arith) (omega arith) (omega arith) (omega arith) (omega arith) (omega arith) e

pub meet_cuts : {n l m r : ℕ} {cs : List ℕ} → Rising 0 (suc n) cs → Meet cs l m r → Cuts n l m r
meet_cuts ri w = let o = meet_order ri w in record { lm = o.1; mr = o.2; rn = omega arith }

module _ (n : ℕ) (adm : ℕ → ℕ → ℕ → Bool) (sav : ℕ → ℕ → ℕ → ℕ) where
  -- a key that stands for an admitted pair of segments, whether they are there or not, with what joining it saves
  pub record Offer (k : ℕ) : Type 0 where
    pub l : ℕ
    pub m : ℕ
    pub r : ℕ
    pub is : k ≡ code (sav l m r) l m r
    pub ok : adm l m r ≡ true
    pub cuts : Cuts n l m r

  -- all keys of the queue are offers, and each admitted pair of the cuts is offered
  pub record Waiting (cs : List ℕ) (has : ℕ → Type 0) : Type 0 where
    pub offer : (k : ℕ) → has k → Offer k
    pub all : (a b c : ℕ) → Meet cs a b c → adm a b c ≡ true → has (code (sav a b c) a b c)

  -- the best pair is one
  best-one : {nx : ℕ → ℕ} {cs : List ℕ} {l m r a b c : ℕ} → Linked n nx cs → Best adm sav cs l m r → Best adm sav cs a b c → pair a b c ≡ pair l m r
  best-one {nx} {l = l} {m} {r} {a} {b} {c} k p q =
      let x = p.most a b c q.meets q.ok in
      let y = q.most l m r p.meets p.ok in
      let la : l ≡ a = omega (arith, x.1 y.0, y.1 x.0) in
      let t = chain_next k.chain p.meets in
      let t' = chain_next k.chain q.meets in
      let mb : m ≡ b = sym t.0 ∙ ap nx la ∙ t'.0 in
      let rc : r ≡ c = sym t.1 ∙ ap nx mb ∙ t'.1 in
      cc

  best_is : {nx : ℕ → ℕ} {cs : List ℕ} (l m r : ℕ) → Linked n nx cs → Best adm sav cs l m r → best adm sav cs ≡ pair l m r
  best_is {nx} {cs} l m r k p = by_choice (best adm sav cs)
      (λ e. never p.ok ((rw e at (chosen adm sav cs k.rising)) l m r p.meets))
      (λ a b c e. e ∙ best-one k p (best_meets adm sav cs a b c k.rising e))

  -- the queue is empty: no pair is admitted
  pub best_none : {nx : ℕ → ℕ} {cs : List ℕ} (has : ℕ → Type 0) → Linked n nx cs → Waiting cs has → ((k : ℕ) → has k → ⊥) → best adm sav cs ≡ none
  best_none {nx} {cs} has k g empty = by_choice (best adm sav cs) (λ e. e)
      (λ a b c e. let p = best_meets adm sav cs a b c k.rising e in absurd (empty _ (g.all a b c p.meets p.ok)))

  module _ {nx : ℕ → ℕ} {cs : List ℕ} (n16 : n < 65536) (has : ℕ → Type 0) (li : Linked n nx cs) (g : Waiting cs has) {k : ℕ} (o : Offer k) where
    -- the largest key, where it is not stale, is the rule's choice
    pub top_is_best : ((x : ℕ) → has x → x ≤ k) → nx o.l ≡ o.m → nx o.m ≡ o.r → best adm sav cs ≡ pair o.l o.m o.r
    top_is_best big p q =
        let cu = o.cuts in
        best_is o.l o.m o.r li (record {
          meets = next_meets li p q (omega (arith, cu.lm)) (omega (arith, cu.mr));
          ok = o.ok;
          most = λ a b c w ok.
              let h : code (sav a b c) a b c ≤ code (sav o.l o.m o.r) o.l o.m o.r = rw o.is at (big _ (g.all a b c w ok)) in
              key_order n (sav o.l o.m o.r) (sav a b c) n16 cu (meet_cuts li.rising w) h;
        })

    -- an admitted pair with that key is the offer's
    same_pair : (a b c : ℕ) → Cuts n a b c → code (sav a b c) a b c ≡ k → (a ≡ o.l) × (b ≡ o.m) × (c ≡ o.r)
    same_pair a b c cu e = key-same n (sav o.l o.m o.r) (sav a b c) n16 o.cuts cu (e ∙ o.is)

    -- a stale offer is passed over: without it, the queue waits for the same pairs
    pub stale : (has' : ℕ → Type 0) → ((x : ℕ) → has' x → has x) → ((x : ℕ) → has x → (x ≡ k → ⊥) → has' x)
        → (nx o.l ≡ o.m → nx o.m ≡ o.r → ⊥) → Waiting cs has'
    stale has' old kept st = record {
      offer = λ x h. g.offer x (old x h);
      all = λ a b c w ok. kept _ (g.all a b c w ok) (λ e.
          let t = chain_next li.chain w in
          let same = same_pair a b c (meet_cuts li.rising w) e in
          st (ap nx (sym same.0) ∙ t.0 ∙ same.1) (ap nx (sym same.1) ∙ t.1 ∙ same.2));
    }

    -- after a join, the queue without the offer, and with the pairs that contain the joined segment
    pub after_join : (nx' : ℕ → ℕ) (has' : ℕ → Type 0) → nx o.l ≡ o.m → nx o.m ≡ o.r → Joined nx nx' o.l o.m o.r
        → ((x : ℕ) → has' x → Offer x)
        → ((x : ℕ) → has x → (x ≡ k → ⊥) → has' x)
        → ((a : ℕ) → 0 < o.l → nx' a ≡ o.l → adm a o.l o.r ≡ true → has' (code (sav a o.l o.r) a o.l o.r))
        → (0 < nx' o.r → adm o.l o.r (nx' o.r) ≡ true → has' (code (sav o.l o.r (nx' o.r)) o.l o.r (nx' o.r)))
        → Waiting (without o.m cs) has'
    after_join nx' has' p q u offers kept before after =
        let cu = o.cuts in
        let w : Meet cs o.l o.m o.r = next_meets li p q (omega (arith, cu.lm)) (omega (arith, cu.mr)) in
        let li' : Linked n nx' (without o.m cs) = linked_join u li w in
        record {
          offer = offers;
          all = λ a b c w' ok.
              let t = chain_next li'.chain w' in
              let or = meet_order li'.rising w' in
              ⊎_elim
              (λ e.
              let eb : b ≡ o.r = sym t.0 ∙ ap nx' e ∙ u.left in
              let ec : c ≡ nx' o.r = sym t.1 ∙ ap nx' eb in
              let ok' : adm o.l o.r (nx' o.r) ≡ true = along3 (λ x y z. adm x y z ≡ true) (sym e) (sym eb) (sym ec) ok in
              along3 (λ x y z. has' (code (sav x y z) x y z)) e eb ec (after (omega (arith, or.2)) ok'))
              (λ na. ⊎_elim
              (λ e.
              let ec : c ≡ o.r = sym t.1 ∙ ap nx' e ∙ u.left in
              let ok' : adm a o.l o.r ≡ true = along3 (λ x y z. adm x y z ≡ true) refl (sym e) (sym ec) ok in
              along3 (λ x y z. has' (code (sav x y z) x y z)) refl e ec (before a (omega (arith, or.1)) (t.0 ∙ e) ok'))
              (λ nb.
              let ea : nx a ≡ b = sym (u.else a na (λ e. omega (arith, ap nx' e, u.gone, t.0, or.1))) ∙ t.0 in
              let eb : nx b ≡ c = sym (u.else b nb (λ e. omega (arith, ap nx' e, u.gone, t.1, or.2))) ∙ t.1 in
              let w'' : Meet cs a b c = next_meets li ea eb (omega (arith, or.1)) (omega (arith, or.2)) in
              kept _ (g.all a b c w'' ok) (λ e. na (same_pair a b c (meet_cuts li.rising w'') e).0))
              (same_or_not b o.l))
              (same_or_not a o.l);
        }
