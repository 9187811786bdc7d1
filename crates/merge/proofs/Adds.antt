-- Keys put into the queue or not: what an offer makes of the workspace, and which keys wait then.
-- Assumes nothing.
use mathlib.Core.Path.{◌≡◌, refl, sym, ap, subst, ◌∙◌}
use mathlib.Core.Logic.{◌⊎◌, ⊎_elim, inl, inr}
use mathlib.Core.List.{List}
use mathlib.Core.Bool.{Bool, true, false}
use Prim.Native.Nat.{ℕ, ◌+◌, ◌-◌, ◌<◌, ◌≤◌}
use native.Mathlib.Omega.{arith}
use lib.Dec.{ltb}
use borrow.Author.Tests.{lt-ltb, le-ltb}
use Rattle.model.specs.Tests.{both, pick}
use Rattle.model.proofs.Tests.{either, never, same_or_not, both_first}
use Rattle.stats.specs.declared.Stats.{Stats}
use Rattle.queue.specs.Keys.{key, occ, one, Heap}
use Rattle.queue.specs.Steps.{Pushed, Popped}
use Rattle.queue.proofs.Keys.{one_same, one_other, occ_some}
use Rattle.links.specs.Keys.{code}
use Rattle.links.specs.Pairs.{admits, saves}
use Rattle.links.specs.Tables.{next, prev, stat_at}
use Rattle.merge.specs.Rule.{one_if}
use Rattle.merge.specs.Steps.{many, Added, pair_is, pair_key, left_is, left_key, right_is, right_key}

-- ---- one offer

pub added_yes : {q : ℕ} {t : Bool} {k : ℕ} {h h' : List ℕ} → t ≡ true → Pushed h q k h' → Added q t k h h' (q + 1)
unfolding one_if pick
added_yes e pu = record {
  count = rw e;
  heap = pu.heap;
  put = λ _. pu.keys;
  not = λ f. never e f;
}

pub added_no : {q : ℕ} {t : Bool} {k : ℕ} {h : List ℕ} → t ≡ false → Heap h q → Added q t k h h q
unfolding one_if pick
added_no f o = record {
  count = rw f (omega arith);
  heap = o;
  put = λ e. never e f;
  not = λ _ x. refl;
}

-- an offer of segments whose statistics are a and b
pub offered_yes : (q l m r : ℕ) (t h h' : List ℕ) (a b : Stats) (k : ℕ) → a ≡ stat_at t l → b ≡ stat_at t m → admits a b ≡ true → k ≡ code (saves a b) l m r
    → Pushed h q k h' → Added q (pair_is t l m) (pair_key t l m r) h h' (q + 1)
offered_yes q l m r t h h' a b k ea eb e ek pu =
    added_yes (rw (← ea, ← eb) e) (subst (λ (x : ℕ). Pushed h q x h') (ek ∙ rw (ea, eb)) pu)

pub offered_no : (q l m r : ℕ) (t h : List ℕ) (a b : Stats) → a ≡ stat_at t l → b ≡ stat_at t m → admits a b ≡ false
    → Heap h q → Added q (pair_is t l m) (pair_key t l m r) h h q
offered_no q l m r t h a b ea eb f o = added_no (rw (← ea, ← eb) f) o

-- the pair to the left, read at p, and the pair to the right, read at z
pub added_left : {q : ℕ} {h h' : List ℕ} {c : ℕ} (t : List ℕ) (l r p : ℕ) → 0 < l → p ≡ prev t l → Added q (pair_is t p l) (pair_key t p l r) h h' c
    → Added q (left_is t l) (left_key t l r) h h' c
unfolding both
added_left t l r p z e a = rw (lt-ltb 0 l z) (rw e at a)

pub added_right : {q : ℕ} {h h' : List ℕ} {c : ℕ} (t : List ℕ) (l r z : ℕ) → 0 < z → z ≡ next t r → Added q (pair_is t l r) (pair_key t l r z) h h' c
    → Added q (right_is t l r) (right_key t l r) h h' c
unfolding both
added_right t l r z g e a = rw (lt-ltb 0 (next t r) (omega arith)) (rw e at a)

pub added_none : {q k : ℕ} {h : List ℕ} (x : ℕ) (t : Bool) → x ≤ 0 → Heap h q → Added q (both (ltb 0 x) t) k h h q
added_none x t z o = added_no (both_first _ _ (le-ltb 0 x z)) o

-- another name for the test, and for the key where the test holds
pub added_as : {q : ℕ} {t u : Bool} {k j : ℕ} {h h' : List ℕ} {c : ℕ} → t ≡ u → (u ≡ true → k ≡ j) → Added q t k h h' c → Added q u j h h' c
added_as {q} {t} {u} {k} {j} {h} e f a = record {
  count = a.count ∙ rw e;
  heap = a.heap;
  put = λ y x. a.put (e ∙ y) x ∙ ap (λ (v : ℕ). many h q x + one v x) (f y);
  not = λ y. a.not (e ∙ y);
}

-- ---- the keys that wait then

abbrev pub Has : List ℕ → ℕ → ℕ → Type 0
Has h q k = 0 < occ (key h) q k

module _ {q : ℕ} {t : Bool} {k : ℕ} {h h' : List ℕ} {c : ℕ} (a : Added q t k h h' c) where
  pub added-kept : (x : ℕ) → Has h q x → Has h' c x
  added-kept x g = ⊎_elim (λ e. omega (arith, a.put e x)) (λ e. omega (arith, a.not e x)) (either t)

  pub added_new : t ≡ true → Has h' c k
  added_new e = omega (arith, a.put e k, one_same k)

  pub added_only : (x : ℕ) → Has h' c x → Has h q x ⊎ ((t ≡ true) × (x ≡ k))
  added_only x g = ⊎_elim
      (λ e. ⊎_elim (λ y. inr (e, sym y)) (λ ne. inl (omega (arith, a.put e x, one_other k x ne))) (same_or_not k x))
      (λ e. inl (omega (arith, a.not e x)))
      (either t)

-- ---- the largest key taken

module _ {q k : ℕ} {h h₁ : List ℕ} (p : Popped h q k h₁) where
  pub popped_in : Has h q k
  popped_in = omega (arith, p.keys k, one_same k)

  pub popped_top : (x : ℕ) → Has h q x → x ≤ k
  popped_top x e = let r = occ_some (key h) q x e in omega (arith, r.2, p.largest r.0 r.1)

  pub popped_old : (x : ℕ) → Has h₁ (q - 1) x → Has h q x
  popped_old x e = omega (arith, p.keys x)

  pub popped_kept : (x : ℕ) → Has h q x → (x ≡ k → ⊥) → Has h₁ (q - 1) x
  popped_kept x e ne = omega (arith, p.keys x, one_other k x (λ y. ne (sym y)))
