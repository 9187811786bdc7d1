-- The start of merging: each seed is a segment, and each admitted neighbouring pair of seeds waits in the queue.
-- Assumes nothing.
use mathlib.Core.Path.{◌≡◌, refl, sym, ap, fun_ext, ◌∙◌}
use mathlib.Core.Logic.{⊎_elim}
use mathlib.Core.List.{List, [], ◌∷◌}
use mathlib.Core.Bool.{Bool, true}
use Prim.Native.Nat.{ℕ, zero, suc, ◌+◌, ◌*◌, ◌-◌, ◌<◌, ◌≤◌}
use native.Mathlib.Omega.{arith}
use native.Mathlib.Numerals.{add-one}
use lib.ListN.{length, get_or-eq_default}
use Rattle.model.proofs.Tests.{order, same_or_not}
use Rattle.stats.specs.declared.Stats.{Stats}
use Rattle.queue.specs.Keys.{occ}
use Rattle.links.specs.Links.{Chain, end, link}
use Rattle.links.specs.Keys.{code}
use Rattle.links.specs.Pairs.{admits, saves, admitted, saving}
use Rattle.links.specs.Tables.{base, records, field, next, prev, stat_at, Started}
use Rattle.links.proofs.Segments.{segment_one}
use Rattle.merge.specs.Rule.{one_if, cuts_from, pairs, after_joins, later_offers, merged, offers}
use Rattle.merge.specs.Steps.{Added, Offering}
use Rattle.merge.proofs.Cuts.{cuts_rising, cuts_in, cuts_meet, meet_order}
use Rattle.merge.proofs.Links.{Linked}
use Rattle.merge.proofs.Offers.{one_most}
use Rattle.merge.proofs.Queue.{Waiting, along3}
use Rattle.merge.proofs.Adds.{Has, added_as, added-kept, added_new, added_only}
use Rattle.merge.proofs.State.{State}

-- ---- the offers of the start

-- a pair of seeds
seed_admitted : (f : ℕ → Stats) (i : ℕ) → admits (f i) (f (i + 1)) ≡ admitted f i (i + 1) (i + 2)
unfolding admitted
seed_admitted f i = let e : i + 2 ≡ i + 1 + 1 = omega arith in rw (e, segment_one f i, segment_one f (i + 1))

seed_saving : (f : ℕ → Stats) (i : ℕ) → saves (f i) (f (i + 1)) ≡ saving f i (i + 1) (i + 2)
unfolding saving
seed_saving f i = let e : i + 2 ≡ i + 1 + 1 = omega arith in rw (e, segment_one f i, segment_one f (i + 1))

pairs_short : (adm : ℕ → ℕ → ℕ → Bool) (i k : ℕ) → k ≤ 1 → pairs adm (cuts_from i k) ≡ 0
unfolding cuts_from pairs
pairs_short adm i zero h = refl
pairs_short adm i (suc zero) h = refl
pairs_short adm i (suc (suc k)) h = absurd (omega arith)

pairs_suc : (adm : ℕ → ℕ → ℕ → Bool) (i k : ℕ) → pairs adm (cuts_from i (suc (suc k))) ≡ one_if (adm i (suc i) (suc (suc i))) + pairs adm (cuts_from (suc i) (suc k))
unfolding cuts_from pairs
pairs_suc adm i zero = refl
pairs_suc adm i (suc k) = refl

pairs_step : (adm : ℕ → ℕ → ℕ → Bool) (i n : ℕ) → i + 1 < n → pairs adm (cuts_from i (n - i)) ≡ one_if (adm i (i + 1) (i + 2)) + pairs adm (cuts_from (i + 1) (n - (i + 1)))
pairs_step adm i n h =
    let e : n - i ≡ suc (suc (n - i - 2)) = omega arith in
    let e₁ : n - (i + 1) ≡ suc (n - i - 2) = omega arith in
    let s₂ : i + 2 ≡ suc (suc i) = omega arith in
    rw (e, e₁, s₂, add-one i) (pairs_suc adm i (n - i - 2))

pub offering_none : (f : ℕ → Stats) (n : ℕ) (h : List ℕ) → Offering f n 0 h 0
unfolding occ
offering_none f n h = record {
  most = omega arith;
  heap = record { below = λ j p q. absurd (omega arith) };
  count = let e : n - 0 ≡ n = omega arith in rw e (omega arith);
  all = λ x g. absurd (omega arith);
  only = λ k g. absurd (omega arith);
}

pub offering_more : (f : ℕ → Stats) (n i q : ℕ) (w w' : List ℕ) (c : ℕ) → i + 1 < n → Added q (admits (f i) (f (i + 1))) (code (saves (f i) (f (i + 1))) i (i + 1) (i + 2)) w w' c
    → Offering f n i w q → Offering f n (i + 1) w' c
offering_more f n i q w w' c h a₀ o =
    let a : Added q (admitted f i (i + 1) (i + 2)) (code (saving f i (i + 1) (i + 2)) i (i + 1) (i + 2)) w w' c =
    added_as (seed_admitted f i) (λ _. ap (λ (s : ℕ). code s i (i + 1) (i + 2)) (seed_saving f i)) a₀ in
    record {
      most = omega (arith, o.most, a.count, one_most (admitted f i (i + 1) (i + 2)));
      heap = a.heap;
      count = omega (arith, o.count, a.count, pairs_step (admitted f) i n h);
      all = λ x l ok. ⊎_elim
          (λ e. rw e (added_new a (rw e at ok)))
          (λ ne. added-kept a _ (o.all x (omega arith) ok))
          (same_or_not x i);
      only = λ k e. ⊎_elim (λ old. o.only k old) (λ t. (i, omega arith, t.0, t.1)) (added_only a k e);
    }

-- ---- the state that the loop starts with

-- each seed is a segment with its statistics
pub record Seeded (f : ℕ → Stats) (n : ℕ) (t : List ℕ) : Type 0 where
  pub ends : (x : ℕ) → x < n → next t x ≡ x + 1
  pub end : next t n ≡ 0
  pub backs : (x : ℕ) → x < n → prev t (x + 1) ≡ x
  pub stats : (x : ℕ) → stat_at t x ≡ f x

cuts_first : (n : ℕ) → (t : List ℕ) × (cuts_from 0 n ≡ 0 ∷ t)
unfolding cuts_from
cuts_first zero = ([], refl)
cuts_first (suc n) = (cuts_from 1 n, refl)

cuts_chain : (nx : ℕ → ℕ) (n i k : ℕ) → i + k ≡ n → ((x : ℕ) → x < n → nx x ≡ x + 1) → nx n ≡ 0 → Chain nx (cuts_from i k)
unfolding cuts_from
cuts_chain nx n i zero e h l = let s : i ≡ n = omega arith in end (ap nx s ∙ l)
cuts_chain nx n i (suc zero) e h l = let s : suc i ≡ n = omega arith in link (h i (omega arith) ∙ add-one i) (end (ap nx s ∙ l))
cuts_chain nx n i (suc (suc k)) e h l = link (h i (omega arith) ∙ add-one i) (cuts_chain nx n (suc i) (suc k) (omega arith) h l)

-- a word behind the list
field_beyond : (t : List ℕ) (x k : ℕ) → length t ≤ x * 8 + k → field t x k ≡ 0
unfolding field
field_beyond t x k g = get_or-eq_default t 0 g

module _ {f : ℕ → Stats} {n q : ℕ} {t h : List ℕ} (z : 0 < n) (long : length t ≡ base n) (st : Seeded f n t) (o : Offering f n (n - 1) h q) where
  beyond : (x : ℕ) → n ≤ x → next t x ≡ 0
  beyond x g = ⊎_elim (λ e. rw e st.end) (λ ne. field_beyond t x 0 (omega arith)) (same_or_not x n)

  -- a cut with a cut after it is a seed
  seed : (a b : ℕ) → next t a ≡ b → 0 < b → (a < n) × (b ≡ a + 1)
  seed a b e g = ⊎_elim (λ l. (l, sym e ∙ st.ends a l)) (λ l. absurd (omega (arith, beyond a l))) (order a n)

  seed_links : Linked n (next t) (cuts_from 0 n)
  seed_links = record {
    rising = cuts_rising 0 n (suc n) (omega arith);
    chain = cuts_chain (next t) n 0 n (omega arith) st.ends st.end;
    only = λ a g. let y = seed a (next t a) refl g in cuts_in 0 n a (omega arith) (omega arith);
  }

  seed_wait : Waiting n (admitted f) (saving f) (cuts_from 0 n) (Has h q)
  seed_wait = record {
    offer = λ k g. let y = o.only k g in record { l = y.0; m = y.0 + 1; r = y.0 + 2; is = y.3; ok = y.2; cuts = record { lm = omega arith; mr = omega arith; rn = y.1 } };
    all = λ a b c m ok.
        let y = cuts_meet 0 n a b c m in
        let in_n = meet_order (cuts_rising 0 n (suc n) (omega arith)) m in
        along3 (λ u v x. Has h q (code (saving f u v x) u v x)) refl y.0 y.1
        (o.all a (omega (arith, y.1)) (along3 (λ u v x. admitted f u v x ≡ true) refl (sym y.0) (sym y.1) ok));
  }

  rule_starts : after_joins (admitted f) (saving f) (length (cuts_from 0 n)) (cuts_from 0 n) ≡ merged (admitted f) (saving f) (cuts_from 0 n)
  unfolding merged
  rule_starts = refl

  rule_offers : offers (admitted f) (saving f) (cuts_from 0 n) ≡ pairs (admitted f) (cuts_from 0 n) + later_offers (admitted f) (saving f) (length (cuts_from 0 n)) (cuts_from 0 n)
  unfolding offers
  rule_offers = refl

  pub begin : State f n t h q 0
  begin = record {
    cs = cuts_from 0 n;
    tail = (cuts_first n).0;
    turns = length (cuts_from 0 n);
    first = (cuts_first n).1;
    long = long;
    links = seed_links;
    back = λ a b e g. let y = seed a b e g in rw y.1 (st.backs a y.0);
    stats = λ a b e g. let y = seed a b e g in st.stats a ∙ rw y.1 (sym (segment_one f a));
    heap = o.heap;
    wait = seed_wait;
    same = rule_starts;
    count = omega (arith, o.count, pairs_short (admitted f) (n - 1) (n - (n - 1)) (omega arith), rule_offers);
    fuel = omega arith;
  }

-- the records after the start
module _ (n : ℕ) (w t : List ℕ) (st : Started n (records n w) t) where
  pub seeded : Seeded (stat_at t) n t
  seeded = record { ends = st.ends; end = st.end; backs = st.backs; stats = λ x. refl }

  pub stats_kept : stat_at t ≡ stat_at (records n w)
  stats_kept = fun_ext st.stats
