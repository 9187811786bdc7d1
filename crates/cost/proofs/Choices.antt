-- Comparison by the first difference, place by place.
-- Assumes nothing.
use mathlib.Core.Path.{◌≡◌}
use mathlib.Core.List.{List, [], ◌∷◌}
use Prim.Native.Nat.{ℕ}
use mathlib.Core.Logic.{⊎_elim}
use native.Mathlib.Omega.{arith}
use lib.Dec.{ltb}
use borrow.Author.Tests.{lt-ltb, le-ltb, ltb-false}
use Rattle.model.specs.Tests.{pick}
use Rattle.model.proofs.Tests.{either}
use Rattle.cost.specs.Forms.{lex}

-- heads that are equal leave it to the rest
pub lex-same : (x y : ℕ) (xs ys : List ℕ) → x ≡ y → lex (x ∷ xs) (y ∷ ys) ≡ lex xs ys
unfolding lex pick
lex-same x y xs ys e = rw (le-ltb x y (omega arith), le-ltb y x (omega arith))

-- heads that differ decide
pub lex_differ : (x y : ℕ) (xs ys : List ℕ) → (x ≡ y → ⊥) → lex (x ∷ xs) (y ∷ ys) ≡ ltb x y
unfolding lex pick
lex_differ x y xs ys n = ⊎_elim (λ e. rw e) (λ e. rw (e, lt-ltb y x (omega (arith, ltb-false x y e)))) (either (ltb x y))

pub lex-one : (x y : ℕ) → lex (x ∷ []) (y ∷ []) ≡ ltb x y
unfolding lex pick
lex-one x y = ⊎_elim (λ e. rw e) (λ e. rw e (⊎_elim (λ l. rw l) (λ l. rw l) (either (ltb y x)))) (either (ltb x y))
