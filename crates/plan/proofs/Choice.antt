-- By code order a segmented body is below no form.
-- Assumes nothing.
use mathlib.Core.Path.{◌≡◌, refl, sym}
use mathlib.Core.Bool.{false}
use mathlib.Core.List.{List}
use Prim.Native.Nat.{ℕ, ◌-◌, ◌≤◌}
use Rattle.std.proofs.Common.{Ordering, Less, Equal, Greater}
use Rattle.std.specs.Ordering.{partial_ordering_then, nat_cmp, is_lt, is_some_and}
use Rattle.std.proofs.Common.{Option, None, Some, ◌∷◌}
use mathlib.Core.Logic.{⊎_elim}
use lib.ListN.{length}
use native.Mathlib.Omega.{arith}
use lib.Dec.{leb, ltb}
use borrow.Author.Tests.{le-ltb, lt-ltb, ltb-false, eq-eqb, ne_eqb}
use Rattle.model.specs.Tests.{pick}
use Rattle.model.proofs.Tests.{either, same_or_not, pick_most}
use Rattle.model.specs.Lists.{Rising}
use Rattle.model.proofs.Rising.{rising_below}
use Rattle.stats.specs.declared.Stats.{Stats}
use Rattle.stats.specs.Statistics.{stats_of}
use Rattle.stats.proofs.Joining.{stats_sound}
use Rattle.cost.specs.Forms.{order_of, lex, Over}
use Rattle.planning.specs.Bodies.{segmented_form}

order_most : (tag : ℕ) → order_of tag ≤ 5
unfolding order_of
order_most tag =
    pick_most (leb tag 1) 0 _ 5 (omega arith)
    (pick_most (leb tag 3) 1 _ 5 (omega arith)
    (pick_most (leb tag 5) 2 _ 5 (omega arith) (pick_most (leb tag 6) 4 _ 5 (omega arith) (pick_most (leb tag 8) 3 5 5 (omega arith) (omega arith)))))

pub order_last : (s tag : ℕ) → s ≡ 9 → ltb (order_of s) (order_of tag) ≡ false
unfolding order_of pick
order_last s tag e = rw e (le-ltb 5 (order_of tag) (order_most tag))

-- ---- a comparison of tuples goes by the first place where they differ

then_again : (m p q : Option Ordering) → partial_ordering_then (partial_ordering_then m p) q ≡ partial_ordering_then m (partial_ordering_then p q)
then_again None p q = refl
then_again (Some Less) p q = refl
then_again (Some Equal) p q = refl
then_again (Some Greater) p q = refl

by_first : (x y : ℕ) (p : Option Ordering) (xs ys : List ℕ) → is_some_and is_lt p ≡ lex xs ys → is_some_and is_lt (partial_ordering_then (Some (nat_cmp x y)) p) ≡ lex (x ∷ xs) (y ∷ ys)
unfolding lex pick
by_first x y p xs ys e =
    ⊎_elim
    (λ l. rw l)
    (λ g.
    ⊎_elim
    (λ (s : x ≡ y). rw (g, le-ltb y x (omega arith), eq-eqb x y s) e)
    (λ (n : x ≡ y → ⊥). rw (g, lt-ltb y x (omega (arith, ltb-false x y g)), ne_eqb x y n))
    (same_or_not x y))
    (either (ltb x y))

then_equal : (m : Option Ordering) → partial_ordering_then m (Some Equal) ≡ m
then_equal None = refl
then_equal (Some Less) = refl
then_equal (Some Equal) = refl
then_equal (Some Greater) = refl

-- of four places, where by what follows in the lists the first is not the lesser
pub by_four : (a b c d a' b' c' d' : ℕ) (xs ys : List ℕ) → lex xs ys ≡ false
    → is_some_and is_lt (partial_ordering_then (partial_ordering_then (partial_ordering_then (Some (nat_cmp a a')) (Some (nat_cmp b b'))) (Some (nat_cmp c c'))) (Some (nat_cmp d d')))
    ≡ lex (a ∷ b ∷ c ∷ d ∷ xs) (a' ∷ b' ∷ c' ∷ d' ∷ ys)
by_four a b c d a' b' c' d' xs ys e =
    let p = Some (nat_cmp a a') in
    let q = Some (nat_cmp b b') in
    let r = Some (nat_cmp c c') in
    let t = Some (nat_cmp d d') in
    rw (then_again (partial_ordering_then p q) r t, then_again p q (partial_ordering_then r t))
    (by_first a a' _ _ _ (by_first b b' _ _ _ (by_first c c' _ _ _ (rw then_equal at (by_first d d' (Some Equal) xs ys (sym e))))))

-- ---- what is compared

pub tag_nine : (ss : List Stats) → (segmented_form ss).tag ≡ 9
unfolding segmented_form
tag_nine ss = refl

-- statistics of rows below a span
pub over_stats : {span : ℕ} {xs : List ℕ} → Rising 0 span xs → 1 ≤ length xs → span ≤ 4294967295 → Over (stats_of xs) span
unfolding stats_of
over_stats {span} {xs} r some wide = record { sound = stats_sound r some wide; in_span = rising_below r (length xs - 1) (omega arith) }
