-- `lists::dense_place` meets its contract: below a position of the span stand as many as it says, and past it all.
-- Assumes nothing.
use Rattle.std.proofs.Common.{◌≡◌, min, ⊎_elim, arith, lt-ltb, le-ltb}
use Rattle.model.proofs.Tests.{order}
use Rattle.lists.proofs.Dense.{dense_inside, dense_past}
use Rattle.lists.proofs.dense_place.Goals as goal

pub returns : goal.returns
returns c =
    let p = c.args.p in
    let span = c.args.span in
    ⊎_elim
    (λ l. let e : min p span ≡ p = omega arith in rw (c.min.ensures, e, lt-ltb p span l) (dense_inside span p l))
    (λ g. let e : min p span ≡ span = omega arith in rw (c.min.ensures, e, le-ltb p span g) (dense_past span p g))
    (order p span)
