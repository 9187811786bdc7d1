-- The number of an answer, and what a call on a lent record promises by its number.
-- Assumes nothing.
use mathlib.Core.Path.{◌≡◌, refl, ◌∙◌}
use Prim.Native.Nat.{ℕ}
use mathlib.Core.List.{List}
use Rattle.model.proofs.Answers.{same_number}
use Rattle.gather_core.specs.declared.Gatherer.{Gatherer}
use Rattle.std.specs.Prelude.{Result, Ok, Err}
use Rattle.model.specs.declared.refusal.Refusal.{Refusal}
use Rattle.model.specs.Refusals.{number_in}
use Rattle.gather.specs.Records.{added_answer}
use Rattle.gather.proofs.Promised.{Wanted, Said}

-- the number of what was added is the answer's
pub number_is : (a : Result (Unit {0}) Refusal) (g : Gatherer) → number_in a ≡ (added_answer a g).number
number_is (Ok u) g = refl
number_is (Err r) g = refl

-- a result is as wanted, by its number
abbrev pub Numbered : Wanted → ℕ → Gatherer → List ℕ → Type 0
Numbered w n g t = (n ≡ w.0.number) × ((g ≡ w.1.0) × (t ≡ w.1.1))

pub numbered : (w : Wanted) (a : Result (Unit {0}) Refusal) (n : ℕ) (g : Gatherer) (t : List ℕ) → n ≡ number_in a → Said w a g t → Numbered w n g t
numbered w a n g t f e = (f ∙ number_is a g ∙ same_number e.0, e.1)
