-- `deletion::write_page` meets its contract: the front of the page holds the deleted ordinals, which have 16 bits.
use Rattle.std.proofs.Common.{ap, ◌∙◌, arith, List, ℕ}
use Rattle.std.proofs.lemmas.List.Edits.{sets}
use Rattle.bodies.proofs.Laws.{names_few}
use Rattle.deletion.proofs.Walking.{page_front, page_size, page_narrow}
use Rattle.deletion.proofs.write_page.Goals as goal

pub overflow_cast-k : goal.overflow_cast-k
overflow_cast-k c = omega (arith, c.requires.2, names_few _ _ _ c.args.accepted.now.accepted c.args.accepted.now.bytes)

pub copy-requires : goal.copy-requires
copy-requires c =
    let a = c.args in
    let x = a.accepted.now in
    (omega (arith, page_size _ _ _ a.k a.n x.accepted x.bytes c.walk.ensures c.requires.1 c.requires.2), page_narrow _ _ _ a.k a.n x.accepted x.bytes c.walk.ensures c.requires.1 c.requires.2 c.requires.0)

pub returns : goal.returns
returns c =
    let a = c.args in
    let x = a.accepted.now in
    c.copy.ensures ∙ ap (λ (xs : List ℕ). sets a.out.now a.at xs) (page_front _ _ _ a.k a.n x.accepted x.bytes c.walk.ensures c.requires.1 c.requires.2)
