-- `lister::list_some` meets its contract: each turn lists a record of more than four bytes, and goes on where it ends.
use Rattle.std.proofs.Common.{◌-◌, length}
use Rattle.lister.proofs.Laws.{Standing}
use Rattle.lister.proofs.list_some.Given as goal

abbrev pub invariant-loop-n : goal.invariant-loop-n
invariant-loop-n l = Standing l.buf l.from l.hi l.before (length l.fn.out) (length l.out) l.lo l.at l.k

abbrev pub decreases-loop-n : goal.decreases-loop-n
decreases-loop-n l = l.hi - l.lo
