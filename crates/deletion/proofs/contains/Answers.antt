-- `deletion::contains` meets its contract: a section that no test refuses is asked.
use Rattle.std.proofs.Common.{sym, ap, ℕ, Bool, ◌∷◌, [], refl}
use Rattle.model.specs.Tests.{pick}
use Rattle.deletion.specs.Reading.{contained_of, contains_answer}
use Rattle.deletion.proofs.Sections.{answers, number-sound}
use Rattle.deletion.proofs.contains.Goals as goal

pub held_in-held-requires : goal.held_in-held-requires
held_in-held-requires c = number-sound _ _ _ _ (sym c.in_ok-check_section.ensures)

pub returns : goal.returns
unfolding contained_of contains_answer
returns c =
    let e = rw c.held_in-held.ensures.deleted at c.is_deleted.ensures in
    answers c.in_ok-check_section.ensures refl (ap (λ (yes : Bool). pick {A = ℕ} yes 1 0 ∷ []) e)
