-- What the tests before merging answer.
-- Assumes nothing.
use Rattle.std.specs.Prelude.{◌≡◌, List, ℕ, length, Result, Ok}
use Rattle.model.specs.declared.refusal.Refusal.{Refusal}
use Rattle.model.specs.Refusals.{number_in}
use Rattle.planning.specs.Refusals.{ends_of, early_number}

-- the number of the first test that is not met, or 0; and then how many seeds there are
pub record Judged (start end : ℕ) (rows seeds : List ℕ) (words : ℕ) (r : Result ℕ Refusal) : Type 0 where
  pub number : number_in r ≡ early_number start end rows seeds words
  pub count : (n : ℕ) → r ≡ Ok n → n ≡ length (ends_of rows seeds)
