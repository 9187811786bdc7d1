-- `lister::list_all` is safe and ends: each turn reads at least a byte, and the bytes read are counted.
use Rattle.std.proofs.Common.{◌-◌, length}
use Rattle.lister.proofs.Laws.{All}
use Rattle.lister.proofs.list_all.Given as goal

abbrev pub invariant-loop-total : goal.invariant-loop-total
invariant-loop-total l = All (length l.fn.buf) (length l.buf) (length l.fn.out) (length l.out) l.lo l.hi l.at l.k l.total

abbrev pub decreases-loop-total : goal.decreases-loop-total
decreases-loop-total l = 18446744073709551616 - l.total
