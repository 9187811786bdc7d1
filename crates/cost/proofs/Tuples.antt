-- The order of tuples, place by place, is the order of the lists of their numbers.
-- Assumes nothing.
use mathlib.Core.Path.{◌≡◌, refl, sym, ◌∙◌}
use mathlib.Core.Bool.{Bool, true, false}
use mathlib.Core.List.{List, [], ◌∷◌}
use mathlib.Core.Logic.{⊎_elim}
use Prim.Native.Nat.{ℕ, ◌<◌}
use native.Mathlib.Omega.{arith}
use borrow.Author.Tests.{lt-ltb, le-ltb}
use Rattle.std.specs.Prelude.{Option, None, Some}
use Rattle.std.proofs.Common.{Ordering, Less, Equal, Greater}
use Rattle.std.specs.Ordering.{is_lt, is_some_and, nat_cmp, bool_cmp, partial_ordering_then}
use Rattle.std.specs.Cmp.{nat_cmp_is}
use Rattle.model.specs.Tests.{pick}
use Rattle.model.proofs.Tests.{order, same_or_not}
use Rattle.cost.specs.Forms.{lex}
use Rattle.cost.proofs.Choices.{lex-same, lex_differ}

then_assoc : (o p q : Option Ordering) → partial_ordering_then (partial_ordering_then o p) q ≡ partial_ordering_then o (partial_ordering_then p q)
then_assoc None p q = refl
then_assoc (Some Less) p q = refl
then_assoc (Some Equal) p q = refl
then_assoc (Some Greater) p q = refl

-- one number before the others
head : (x y : ℕ) (xs ys : List ℕ) (p : Option Ordering) → is_some_and is_lt p ≡ lex xs ys
    → is_some_and is_lt (partial_ordering_then (Some (nat_cmp x y)) p) ≡ lex (x ∷ xs) (y ∷ ys)
head x y xs ys p h =
    ⊎_elim
    (λ (l : x < y). rw (← nat_cmp_is x y Less l) (sym (lex_differ x y xs ys (λ e. omega (arith, e)) ∙ lt-ltb x y l)))
    (λ g.
    ⊎_elim
    (λ e. rw (← nat_cmp_is x y Equal e) (h ∙ sym (lex-same x y xs ys e)))
    (λ n. rw (← nat_cmp_is x y Greater (omega (arith, n))) (sym (lex_differ x y xs ys n ∙ le-ltb x y g)))
    (same_or_not x y))
    (order x y)

-- a flag as the last
last : (s t : Bool) → is_some_and is_lt (Some (bool_cmp s t)) ≡ lex (pick s 1 0 ∷ []) (pick t 1 0 ∷ [])
unfolding lex pick
last true true = refl
last true false = refl
last false true = refl
last false false = refl

-- four numbers and a flag
pub five : (a b c d i j k l : ℕ) (s t : Bool)
    → is_some_and is_lt (partial_ordering_then (partial_ordering_then (partial_ordering_then (partial_ordering_then (Some (nat_cmp a i)) (Some (nat_cmp b j))) (Some (nat_cmp c k))) (Some (nat_cmp d l))) (Some (bool_cmp s t)))
    ≡ lex (a ∷ b ∷ c ∷ d ∷ pick s 1 0 ∷ []) (i ∷ j ∷ k ∷ l ∷ pick t 1 0 ∷ [])
five a b c d i j k l s t =
    simp then_assoc (head a i _ _ _ (head b j _ _ _ (head c k _ _ _ (head d l _ _ _ (last s t)))))
