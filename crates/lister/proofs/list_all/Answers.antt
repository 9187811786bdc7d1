-- `lister::list_all` calls safely: where a record waits for its bytes, what is at hand lies inside, and is less than the buffer.
use Rattle.std.proofs.Common.{arith, sym, ◌∙◌}
use Rattle.lister.proofs.Laws.{waits_part}
use Rattle.lister.proofs.list_all.Goals as goal

pub refill-more-requires-clause-lo_in_bounds : goal.refill-more-requires-clause-lo_in_bounds
refill-more-requires-clause-lo_in_bounds c =
    let inv = c.loop-total.invariant in
    let short = waits_part _ _ _ inv.inside (rw c.next_in.ensures at (sym c.stops.ensures ∙ c.if-stops.false)) in
    omega (arith, short, inv)
