-- `single::ranks` meets its contract: the ranks of the local form are those of the body.
-- Assumes nothing.
use Rattle.std.proofs.Common.{ℕ, List, ap, ◌∙◌}
use Rattle.model.specs.Answers.{over}
use Rattle.model.proofs.Taking.{tail_is}
use Rattle.single.proofs.Named.{parts_read, accepted_header, single_ranks}
use Rattle.single.proofs.ranks.Goals as goal

pub parse-v-requires : goal.parse-v-requires
parse-v-requires c = accepted_header _ _ _ c.requires.0

pub slice_bounds-part-count : goal.slice_bounds-part-count
slice_bounds-part-count c = (parts_read _ _ _ c.parse-v.ensures c.requires.0).room

pub slice_bounds-part-start : goal.slice_bounds-part-start
slice_bounds-part-start c = (parts_read _ _ _ c.parse-v.ensures c.requires.0).room

pub ranks-requires : goal.ranks-requires
ranks-requires c = (rw (tail_is _ _) (parts_read _ _ _ c.parse-v.ensures c.requires.0).local, c.requires.1)

pub returns : goal.returns
returns c =
    rw (tail_is _ _) at c.ranks.ensures
    ∙ ap (λ (rs : List ℕ). over rs c.args.out.now) (single_ranks _ _ _ c.parse-v.ensures c.requires.0 (λ i. (c.type_inv.body i).fits) _)
