-- The answers of the public calls: an accepted body is asked, any other is refused.
-- Assumes nothing.
use mathlib.Core.Path.{◌≡◌, sym, ◌∙◌}
use mathlib.Core.Bool.{true, false}
use mathlib.Core.List.{List}
use Prim.Native.Nat.{ℕ, ◌≤◌}
use native.Mathlib.Omega.{arith}
use Rattle.fields.specs.Le.{Bytes}
use Rattle.model.specs.Lists.{place_of}
use Rattle.model.specs.Answers.{Answer, refused}
use Rattle.model.specs.declared.Place.{Place}
use Rattle.model.proofs.Tests.{pick_true, pick_false}
use Rattle.model.proofs.Standing.{below_most}
use Rattle.bodies.specs.Bodies.{accepts, names}
use Rattle.rowset.specs.Calls.{asked}
use Rattle.bodies.proofs.Laws.{names_few}

-- ---- refused, or asked

pub refuses : (tag span : ℕ) (xs : List ℕ) (a : Answer) → accepts tag span xs ≡ false → refused 8 ≡ asked tag span xs a
unfolding asked
refuses tag span xs a e = sym (pick_false _ _ e)

pub answers : (tag span : ℕ) (xs : List ℕ) {r a : Answer} → accepts tag span xs ≡ true → r ≡ a → r ≡ asked tag span xs a
unfolding asked
answers tag span xs ok e = e ∙ sym (pick_true _ _ ok)

-- ---- rank

pub small_rank : (tag span : ℕ) (xs : List ℕ) {r : Place} (p : ℕ) → accepts tag span xs ≡ true → Bytes xs → r ≡ place_of (names tag span xs) p → r.below ≤ 65535
unfolding place_of
small_rank tag span xs p ok b e = rw e (omega (arith, below_most (names tag span xs) p, names_few tag span xs ok b))
