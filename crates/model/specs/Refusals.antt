-- The number of each refusal, and the number and values of an answer that may be one.
-- Assumes nothing.
use Rattle.std.specs.Prelude.{◌≡◌, List, ℕ, Result, Ok, Err}
use Rattle.model.specs.Answers.{Answer, accepted, refused}
use Rattle.model.specs.declared.refusal.Refusal.{Refusal}
use Rattle.model.specs.declared.refusal.Refusal.TheVariants as refusal

abbrev pub number_of : Refusal → ℕ
number_of refusal.Coverage = 1
number_of refusal.RowCount = 2
number_of refusal.Order = 3
number_of refusal.SeedEnds = 4
number_of refusal.Workspace = 5
number_of refusal.Limit = 6
number_of refusal.Output = 7
number_of refusal.Body = 8
number_of refusal.Block = 9
number_of refusal.Count = 10
number_of refusal.Table = 11
number_of refusal.Record = 12

-- what `u8::from` gives
abbrev pub Numbers : Refusal → ℕ → Type 0
Numbers r n = n ≡ number_of r

-- the number of a result: 0 where it is no refusal
abbrev pub number_in : {A : Type 0} → Result A Refusal → ℕ
number_in (Ok x) = 0
number_in (Err r) = number_of r

-- a result as a call's answer, by the values of what it holds
abbrev pub answer_of : {A : Type 0} → (A → List ℕ) → Result A Refusal → Answer
answer_of values (Ok x) = accepted (values x)
answer_of values (Err r) = refused (number_of r)
