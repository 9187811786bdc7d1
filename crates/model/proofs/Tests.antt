-- Laws of tests that compute, and of what a loop builds. Each once, over the test, the function and the element.
-- Assumes nothing.
use mathlib.Core.Path.{◌≡◌, refl, sym, ◌∙◌}
use mathlib.Core.Bool.{Bool, true, false, true≢false, false≢true}
use mathlib.Core.Logic.{◌⊎◌, ⊎_elim, inl, inr}
use mathlib.Core.List.{List, [], ◌∷◌, ◌++◌, append_assoc, append-nil}
use Prim.Native.Nat.{ℕ, zero, suc, ◌+◌, ◌<◌, ◌≤◌}
use native.Mathlib.Nat.{add-zero, add-suc, eq-or-lt_of_le, le_of_suc-le-suc}
use native.Mathlib.Numerals.{add-one}
use native.Mathlib.Omega.{arith}
use lib.Dec.{ltb, eqb}
use lib.ListN.{length, get_or, length-append, get_or-append}
use lib.Seq.{get_or_at}
use borrow.Author.Tests.{ltb-true, ltb-false, eq-eqb, eqb-true, eqb-false}
use Rattle.model.specs.Tests.{both, pick, all, tabulate, flat}

-- ---- the cases of a test, with its equation; of two numbers; of an index below n + 1

pub either : (b : Bool) → (b ≡ true) ⊎ (b ≡ false)
either true = inl refl
either false = inr refl

pub order : (a b : ℕ) → (a < b) ⊎ (b ≤ a)
order a b = ⊎_elim (λ e. inl (ltb-true a b e)) (λ e. inr (ltb-false a b e)) (either (ltb a b))

pub same_or_not : (a b : ℕ) → (a ≡ b) ⊎ (a ≡ b → ⊥)
same_or_not a b = ⊎_elim (λ e. inl (eqb-true a b e)) (λ e. inr (eqb-false a b e)) (either (eqb a b))

pub strictly : {a b : ℕ} → a ≤ b → (a ≡ b → ⊥) → a < b
strictly g n = ⊎_elim (λ e. absurd (n e)) (λ l. l) (eq-or-lt_of_le g)

pub last_or_before : {i n : ℕ} → i < suc n → (i ≡ n) ⊎ (i < n)
last_or_before h = eq-or-lt_of_le (le_of_suc-le-suc h)

pub never : {A : Type 0} {b : Bool} → b ≡ true → b ≡ false → A
never p q = absurd (true≢false (sym p ∙ q))

-- two tests that pass together are equal
pub same_test : (a b : Bool) → (a ≡ true → b ≡ true) → (b ≡ true → a ≡ true) → a ≡ b
same_test true b f g = sym (f refl)
same_test false true f g = g refl
same_test false false f g = refl

-- of two equalities that hold together too
pub same_eqb : (a b c d : ℕ) → (a ≡ b → c ≡ d) → (c ≡ d → a ≡ b) → eqb a b ≡ eqb c d
same_eqb a b c d f g = same_test (eqb a b) (eqb c d) (λ e. eq-eqb c d (f (eqb-true a b e))) (λ e. eq-eqb a b (g (eqb-true c d e)))

-- a test that cannot pass
pub refuse : (b : Bool) → (b ≡ true → ⊥) → false ≡ b
refuse true h = absurd (h refl)
refuse false h = refl

-- ---- pick

pub pick_true : {A : Type 0} {t : Bool} (a b : A) → t ≡ true → pick t a b ≡ a
unfolding pick
pick_true a b e = rw e

pub pick_false : {A : Type 0} {t : Bool} (a b : A) → t ≡ false → pick t a b ≡ b
unfolding pick
pick_false a b e = rw e

pub pick_most : (t : Bool) (a b m : ℕ) → a ≤ m → b ≤ m → pick t a b ≤ m
unfolding pick
pick_most true a b m p q = p
pick_most false a b m p q = q

-- ---- both of two tests

pub both_true : (a b : Bool) → a ≡ true → b ≡ true → both a b ≡ true
unfolding both
both_true a b p q = rw (p, q)

pub both_left : (a b : Bool) → both a b ≡ true → a ≡ true
unfolding both
both_left true b e = refl
both_left false b e = e

pub both_right : (a b : Bool) → both a b ≡ true → b ≡ true
unfolding both
both_right true b e = e
both_right false b e = absurd (false≢true e)

pub both_first : (a b : Bool) → a ≡ false → both a b ≡ false
unfolding both
both_first a b p = rw p

pub both_second : (a b : Bool) → b ≡ false → both a b ≡ false
unfolding both
both_second true b p = p
both_second false b p = refl

-- ---- a test at every index

module _ (t : ℕ → Bool) where
  pub all_more : (i : ℕ) → all t i ≡ true → t i ≡ true → all t (i + 1) ≡ true
  unfolding all
  all_more i p q = rw add-one (both_true _ _ p q)

  pub all_step : (i : ℕ) → all t (i + 1) ≡ both (all t i) (t i)
  unfolding all
  all_step i = rw add-one

  pub all_stop : (n i : ℕ) → i < n → t i ≡ false → all t n ≡ false
  unfolding all
  all_stop zero i h e = absurd (omega arith)
  all_stop (suc n) i h e = ⊎_elim (λ q. both_second _ _ (rw (← q) e)) (λ l. both_first _ _ (all_stop n i l e)) (last_or_before h)

  pub all_at : (n : ℕ) → all t n ≡ true → (i : ℕ) → i < n → t i ≡ true
  unfolding all
  all_at zero e i h = absurd (omega arith)
  all_at (suc n) e i h = ⊎_elim (λ q. rw q (both_right _ _ e)) (λ l. all_at n (both_left _ _ e) i l) (last_or_before h)

  pub all_from : (n : ℕ) → ((i : ℕ) → i < n → t i ≡ true) → all t n ≡ true
  unfolding all
  all_from zero h = refl
  all_from (suc n) h = both_true _ _ (all_from n (λ i l. h i (omega arith))) (h n (omega arith))

-- ---- a tabulated list

module _ {A : Type 0} (f : ℕ → A) where
  pub length-tabulate : (n : ℕ) → length (tabulate f n) ≡ n
  unfolding tabulate
  length-tabulate zero = refl
  length-tabulate (suc n) = omega (arith, length-append (tabulate f n) (f n ∷ []), length-tabulate n)

  pub get_or-tabulate : (n i : ℕ) (d : A) → i < n → get_or (tabulate f n) i d ≡ f i
  unfolding tabulate
  get_or-tabulate zero i d h = absurd (omega arith)
  get_or-tabulate (suc n) i d h =
      ⊎_elim
      (λ q. rw q (get_or_at (tabulate f n) (f n) [] d n (length-tabulate n)))
      (λ l. get_or-append (tabulate f n) (f n ∷ []) d i (omega (arith, length-tabulate n)) ∙ get_or-tabulate n i d l)
      (last_or_before h)

pub tabulate-same : {A : Type 0} (f g : ℕ → A) (n : ℕ) → ((i : ℕ) → i < n → f i ≡ g i) → tabulate f n ≡ tabulate g n
unfolding tabulate
tabulate-same f g zero h = refl
tabulate-same f g (suc n) h = rw (tabulate-same f g n (λ i l. h i (omega arith)), h n (omega arith))

-- ---- lists one after the other

module _ {A : Type 0} (g : ℕ → List A) where
  pub flat_step : (n : ℕ) → flat g (n + 1) ≡ flat g n ++ g n
  unfolding flat
  flat_step n = rw add-one

  pub flat_length_step : (n : ℕ) → length (flat g (suc n)) ≡ length (flat g n) + length (g n)
  unfolding flat
  flat_length_step n = length-append (flat g n) (g n)

  -- the first i of n lists stand in front
  pub flat_front : (i m : ℕ) → flat g (i + m) ≡ flat g i ++ flat (λ j. g (i + j)) m
  unfolding flat
  flat_front i zero = rw (add-zero i) (sym (append-nil (flat g i)))
  flat_front i (suc m) = rw (add-suc i m, flat_front i m, append_assoc)

pub flat-same : {A : Type 0} (g h : ℕ → List A) (n : ℕ) → ((i : ℕ) → i < n → g i ≡ h i) → flat g n ≡ flat h n
unfolding flat
flat-same g h zero e = refl
flat-same g h (suc n) e = rw (flat-same g h n (λ i l. e i (omega arith)), e n (omega arith))
