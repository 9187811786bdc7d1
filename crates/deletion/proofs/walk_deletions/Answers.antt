-- `deletion::walk_deletions` meets its contract: a section that no test refuses is walked.
use Rattle.std.proofs.Common.{sym, ap, ℕ, ◌∷◌, [], refl}
use Rattle.rowset.specs.Calls.{filled_of}
use Rattle.deletion.specs.Reading.{walk_answer, walk_left}
use Rattle.deletion.proofs.Sections.{answers, leaves, kept, number-sound}
use Rattle.deletion.proofs.walk_deletions.Goals as goal

pub returns-in_err-check_section-clause-out_after : goal.returns-in_err-check_section-clause-out_after
unfolding walk_left
returns-in_err-check_section-clause-out_after c = kept _ _ _ _ c.in_err-check_section.ensures

pub held_in-held-requires : goal.held_in-held-requires
held_in-held-requires c = number-sound _ _ _ _ (sym c.in_ok-check_section.ensures)

pub returns : goal.returns
unfolding filled_of walk_answer walk_left
returns c =
    let e = c.in_ok-check_section.ensures in
    let w = rw c.held_in-held.ensures.deleted at c.write.ensures in
    record { result_value = answers e refl (ap (λ (k : ℕ). k ∷ []) w.number); out_after = leaves e _ refl w.written }
