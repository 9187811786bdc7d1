-- The answers of a check: a test that failed, or all that passed and the one that is left. What an accepted count is.
-- Assumes nothing.
use mathlib.Core.Path.{◌≡◌, refl, sym, ◌∙◌}
use mathlib.Core.Bool.{Bool, true, false, not, ◌&&◌}
use Prim.Native.Nat.{ℕ, ◌+◌, ◌<◌, ◌≤◌}
use native.Mathlib.Omega.{arith}
use borrow.Author.Tests.{le-leb, lt-leb, leb-true, not-false, not-true}
use Rattle.model.specs.Tests.{both, all}
use Rattle.model.proofs.Tests.{both_true, both_left, both_right, both_first, both_second, all_step}
use Rattle.model.specs.Lists.{counted}

-- a test that passed is left out
pub both_pass : {a b r : Bool} → a ≡ true → r ≡ b → r ≡ both a b
unfolding both
both_pass p q = rw p q

-- a test by its answer, where the code asks for the opposite
pub met : {t u : Bool} → t ≡ u → not t ≡ false → u ≡ true
met {t} e f = sym e ∙ not-false t f

pub missed : {t u : Bool} → t ≡ u → not t ≡ true → u ≡ false
missed {t} e f = sym e ∙ not-true t f

-- and as a branch on the negation of a test says them
pub test_is : {t u v : Bool} → t ≡ u → t ≡ v → u ≡ v
test_is e f = sym e ∙ f

-- the code's conjunction
pub and_both : (a b : Bool) → a && b ≡ both a b
unfolding both
and_both true b = refl
and_both false b = refl

-- one turn of a loop that keeps a flag
pub flag_step : (t : ℕ → Bool) (i : ℕ) {ok u : Bool} → ok ≡ all t i → u ≡ t i → (ok && u) ≡ all t (i + 1)
flag_step t i p q = rw (p, q) (and_both _ _ ∙ sym (all_step t i))

-- a test that holds anyway
pub both_yes : (a : Bool) → both a true ≡ a
unfolding both
both_yes true = refl
both_yes false = refl

-- what an accepted count is
pub record Count (span n : ℕ) : Type 0 where
  pub some : 1 ≤ n
  pub within : n ≤ span
  pub most : n ≤ 65535

module _ (span n : ℕ) where
  pub counted_none : n ≡ 0 → counted span n ≡ false
  unfolding counted
  counted_none e = both_first _ _ (lt-leb 1 n (omega arith))

  pub counted_past : span < n → counted span n ≡ false
  unfolding counted
  counted_past h = both_second _ _ (both_first _ _ (lt-leb n span h))

  pub counted_right : Count span n → counted span n ≡ true
  unfolding counted
  counted_right c = both_true _ _ (le-leb 1 n c.some) (both_true _ _ (le-leb n span c.within) (le-leb n 65535 c.most))

  pub counted_count : counted span n ≡ true → Count span n
  unfolding counted
  counted_count ok =
      let rest = both_right _ _ ok in
      record { some = leb-true 1 n (both_left _ _ ok); within = leb-true n span (both_left _ _ rest); most = leb-true n 65535 (both_right _ _ rest) }
