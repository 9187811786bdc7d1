-- `gather::quick::row_way` meets its contract.
-- Assumes nothing.
use Rattle.std.proofs.Common.{sym, ◌∙◌}
use Rattle.gather_core.specs.Gather.{row_number}
use Rattle.gather.specs.Records.{Leads}
use Rattle.gather_core.proofs.Admitted.{first_refuses, goes_on_lem, elsewhere, first_row, begins, no_room, not_following, unmatched}
use Rattle.gather.proofs.Answers.{refused_by}
use Rattle.gather.proofs.quick.row_way.Goals as goal
use Rattle.gather.proofs.quick.row_way.Goals.{then-follows+else-row-g, else-follows+else-g-ne0+else-g-ne0-2}

pub returns-then-row-g : goal.returns-then-row-g
unfolding Leads
returns-then-row-g c = goes_on_lem _ _ _ (c.follows.ensures.0 c.if-follows.true) (sym c.if-row-g.true)

pub unwrap_err-requires : goal.unwrap_err-requires
unwrap_err-requires c =
    let n = not_following _ _ _ c.if-g-ne0.true (c.follows.ensures.1 c.if-follows.false) in
    refused_by _ _ (rw c.above.ensures at c.early.ensures) n

pub returns-then-g-ne0 : goal.returns-then-g-ne0
unfolding Leads row_number
returns-then-g-ne0 c =
    let n = not_following _ _ _ c.if-g-ne0.true (c.follows.ensures.1 c.if-follows.false) in
    first_refuses _ _ n ∙ sym (rw (c.above.ensures, c.unwrap_err.ensures) at c.early.ensures)

pub returns-then-g-ne0-2 : goal.returns-then-g-ne0-2
unfolding Leads
returns-then-g-ne0-2 c = unmatched _ _ _ c.if-g-ne0.false c.if-g-ne0-2.true

pub returns-then-g-room : goal.returns-then-g-room
unfolding Leads
returns-then-g-room c =
    elim c.if-follows.branch [
      | then-follows+else-row-g w ↦ begins _ _ _ (elsewhere _ _ _ (c.follows.ensures.0 w.if-follows.true) w.if-row-g.false) c.if-g-room.true
      | else-follows+else-g-ne0+else-g-ne0-2 w ↦ begins _ _ _ (first_row _ _ _ w.if-g-ne0.false w.if-g-ne0-2.false) c.if-g-room.true
    ]

pub returns-else-g-room : goal.returns-else-g-room
unfolding Leads
returns-else-g-room c =
    elim c.if-follows.branch [
      | then-follows+else-row-g w ↦ no_room _ _ _ (elsewhere _ _ _ (c.follows.ensures.0 w.if-follows.true) w.if-row-g.false) c.if-g-room.false
      | else-follows+else-g-ne0+else-g-ne0-2 w ↦ no_room _ _ _ (first_row _ _ _ w.if-g-ne0.false w.if-g-ne0-2.false) c.if-g-room.false
    ]
