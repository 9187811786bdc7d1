-- Choices by a test: what the statements about refusals stand on.
-- Assumes nothing.
use mathlib.Core.Path.{◌≡◌, refl}
use mathlib.Core.Bool.{Bool, true, false, not}
use mathlib.Core.Logic.{◌⊎◌, inl, inr, ⊎_elim}
use mathlib.Core.List.{List, [], ◌∷◌}
use Prim.Native.Nat.{ℕ, suc}
use lib.Dec.{eqb}
use lib.ListN.{length, drop}
use borrow.Author.Tests.{eq-eqb, ne_eqb}
use Rattle.model.specs.Tests.{pick, both}
use Rattle.model.specs.Lists.{has}
use Rattle.model.specs.Answers.{Answer, over}
use Rattle.model.proofs.Tests.{pick_true, pick_false}
use Rattle.model.proofs.Writing.{over-drop}
use Rattle.gather_core.specs.Gather.{or_else}
use Rattle.demands.specs.Demands.{first_due, numbers_of}

-- two choices by one test are made the same way
pub by_test : {A B : Type 0} (P : A → B → Type 0) (t : Bool) {a a' : A} {b b' : B} → (t ≡ true → P a b) → (t ≡ false → P a' b') → P (pick t a a') (pick t b b')
unfolding pick
by_test P true p q = p refl
by_test P false p q = q refl

pub together : {A B : Type 0} (P : A → B → Type 0) (t : Bool) {a a' : A} {b b' : B} → P a b → P a' b' → P (pick t a a') (pick t b b')
together P t p q = by_test P t (λ e. p) (λ e. q)

pub pick-number : (t : Bool) (a b : Answer) → (pick t a b).number ≡ pick t a.number b.number
unfolding pick
pick-number true a b = refl
pick-number false a b = refl

pub pick_not : (t : Bool) (a b : ℕ) → pick t a b ≡ pick (not t) b a
unfolding pick
pick_not true a b = refl
pick_not false a b = refl

pub pick-both : {A : Type 0} (t u : Bool) (a b : A) → pick (both t u) a b ≡ pick t (pick u a b) b
unfolding pick both
pick-both true u a b = refl
pick-both false u a b = refl

-- a number of which the first test is chosen by t: what comes after it is asked only where t passes
pub pick_then : (t : Bool) (k n later : ℕ) → (k ≡ 0 → ⊥) → pick (eqb (pick t n k) 0) later (pick t n k) ≡ pick t (pick (eqb n 0) later n) k
unfolding pick
pick_then true k n later h = refl
pick_then false k n later h = pick_false later k (ne_eqb k 0 h)

pub pick_else : (t : Bool) (k n later : ℕ) → or_else (pick t n (suc k)) later ≡ pick t (or_else n later) (suc k)
unfolding pick or_else
pick_else true k n later = refl
pick_else false k n later = refl

-- a number that is answered is 0 or stands beside a test
pick_yes : (b : Bool) {c : Bool} → c ≡ true → pick b true c ≡ true
unfolding pick
pick_yes true h = refl
pick_yes false h = h

due_step : (t : Bool) (k n : ℕ) (ns : List ℕ) → (n ≡ 0) ⊎ (has ns n ≡ true) → (pick t n k ≡ 0) ⊎ (has (k ∷ ns) (pick t n k) ≡ true)
unfolding has pick
due_step true k n ns d = ⊎_elim (λ z. inl z) (λ h. inr (pick_yes (eqb k n) h)) d
due_step false k n ns d = inr (pick_true true (has ns k) (eq-eqb k k refl))

pub due_listed : (ts : List (Bool × ℕ)) → (first_due ts ≡ 0) ⊎ (has (numbers_of ts) (first_due ts) ≡ true)
unfolding first_due numbers_of
due_listed [] = inl refl
due_listed (t ∷ ts) = due_step t.0 t.1 (first_due ts) (numbers_of ts) (due_listed ts)

-- what lies beyond a front of n elements stays
pub over_beyond : {A : Type 0} (front old : List A) (n : ℕ) → length front ≡ n → drop n (over front old) ≡ drop n old
over_beyond front old n e = rw (← e) (over-drop front old)
