-- `deletion::check_deletions` meets its contract: where no test refuses, the stated count is the number of deletions.
use Rattle.std.proofs.Common.{sym, ap, ◌∙◌, ℕ, ◌∷◌, [], refl}
use Rattle.deletion.specs.Reading.{counted_of, check_answer}
use Rattle.deletion.proofs.Sections.{answers, number-sound, sound_count}
use Rattle.deletion.proofs.check_deletions.Goals as goal

pub returns : goal.returns
unfolding counted_of check_answer
returns c =
    let e = c.in_ok-check_section.ensures in
    answers e refl (ap (λ (k : ℕ). k ∷ []) (c.stated.ensures ∙ sound_count _ _ _ (number-sound _ _ _ _ (sym e))))
