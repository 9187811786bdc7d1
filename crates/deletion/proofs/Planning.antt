-- What deletion planning answers and leaves, case by case: no block, no deletions, a plan.
-- Assumes nothing.
use mathlib.Core.Path.{◌≡◌, sym, ◌∙◌}
use mathlib.Core.Bool.{true, false}
use mathlib.Core.List.{List, []}
use Prim.Native.Nat.{ℕ, ◌<◌, ◌≤◌}
use lib.ListN.{length}
use borrow.Author.Tests.{le-leb, lt-leb}
use Rattle.model.specs.Answers.{Answer, refused}
use Rattle.model.proofs.Tests.{pick_true, pick_false, both_true, both_first, both_second}
use Rattle.planning.specs.Planning.{plan_of, plan_out, plan_work}
use Rattle.deletion.specs.Reading.{body_limit, block_fits}
use Rattle.deletion.specs.Striking.{no_deletions, strikes, strike_of, strike_out, strike_work}

-- one result and the final contents of the output and of the workspace
pub record Strikes (rows limit : ℕ) (ordinals work out work' out' : List ℕ) (a : Answer) : Type 0 where
  pub answer : a ≡ strike_of rows limit ordinals (length work) (length out)
  pub output : out' ≡ strike_out rows limit ordinals (length work) out
  pub workspace : work' ≡ strike_work rows limit ordinals work

module _ (rows limit : ℕ) (ordinals work out : List ℕ) where
  pub no_block : block_fits rows limit ≡ false → Strikes rows limit ordinals work out work out (refused 9)
  unfolding strike_of strike_out strike_work strikes
  no_block e =
      record {
        answer = sym (pick_false _ _ e);
        output = sym (pick_false _ _ (both_first _ _ e));
        workspace = sym (pick_false _ _ (both_first _ _ e));
      }

  pub no_deletions_lem : block_fits rows limit ≡ true → length ordinals < 1 → Strikes rows limit ordinals work out work out no_deletions
  unfolding strike_of strike_out strike_work strikes
  no_deletions_lem e h =
      let none = lt-leb 1 (length ordinals) h in
      record {
        answer = sym (pick_true _ _ e ∙ pick_false _ _ none);
        output = sym (pick_false _ _ (both_second _ _ none));
        workspace = sym (pick_false _ _ (both_second _ _ none));
      }

  pub some_deletions : {work' out' : List ℕ} {a : Answer} {most : ℕ} → block_fits rows limit ≡ true → 1 ≤ length ordinals → most ≡ body_limit rows
      → a ≡ plan_of 0 rows ordinals [] most (length work) (length out) → out' ≡ plan_out 0 rows ordinals [] most (length work) out → work' ≡ plan_work 0 rows ordinals [] work
      → Strikes rows limit ordinals work out work' out' a
  unfolding strike_of strike_out strike_work strikes
  some_deletions e h m p q r =
      let some = le-leb 1 (length ordinals) h in
      record {
        answer = rw m at p ∙ sym (pick_true _ _ e ∙ pick_true _ _ some);
        output = rw m at q ∙ sym (pick_true _ _ (both_true _ _ e some));
        workspace = r ∙ sym (pick_true _ _ (both_true _ _ e some));
      }
