-- Whole bodies of every tag: the positions that they name. Tags 1 to 8 are one local form, tag 9 is a directory of parts; no other tag
-- has a form. Which bodies are accepted stands in `Accepted`.
-- Assumes nothing.
use Rattle.std.specs.Prelude.{◌≡◌, true, List, ℕ, eqb}
use Rattle.model.specs.Tests.{pick}
use Rattle.single.specs.Single.{single_names}
use Rattle.segmented.specs.Segmented.{segmented_names}
unfoldable pub use Rattle.bodies.specs.Accepted.{accepts}

unfoldable pub names : ℕ → ℕ → List ℕ → List ℕ
names tag span xs = pick (eqb tag 9) (segmented_names xs) (single_names tag span xs)

-- a body that is accepted under its tag, and names these rows
pub record Holds (tag span : ℕ) (rows body : List ℕ) : Type 0 where
  pub accepted : accepts tag span body ≡ true
  pub named : names tag span body ≡ rows
