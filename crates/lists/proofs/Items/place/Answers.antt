-- `lists::Items::place` meets its contract: what the search found, and the item before it.
-- Assumes nothing.
use Rattle.lists.specs.Lists.{list_place}
use Rattle.lists.proofs.Places.{found_none, found_some}
use Rattle.lists.proofs.Items.place.Goals as goal
use Rattle.lists.proofs.Items.place.Goals.{then-k-gt0, else-k-gt0}

pub returns : goal.returns
unfolding list_place
returns c =
    let e = rw (c.width.ensures.0, c.from.ensures) at c.upper-k.ensures in
    elim c.if-k-gt0.branch [
      | then-k-gt0 w ↦ found_some _ _ _ _ e w.if-k-gt0.true w.item.ensures w.present-is c.from-2.ensures
      | else-k-gt0 w ↦ found_none _ _ _ _ e w.if-k-gt0.false w.present-is c.from-2.ensures
    ]
