-- `segmented::Segmented::walk` meets its contract.
-- Assumes nothing.
use Rattle.std.proofs.Common.{arith, refl}
use Rattle.segmented.proofs.Laws.{entry-holds}
use Rattle.segmented.proofs.Named.{directory_of, some_segment, holding}
use Rattle.segmented.proofs.Walks.{walk_none, walk_held, held_skip}
use Rattle.segmented.proofs.Segmented.walk.Goals as goal

pub read16-requires : goal.read16-requires
read16-requires c = omega (arith, (directory_of _ _ c.args.self.now.accepted).room)

pub returns-then-read16-k : goal.returns-then-read16-k
returns-then-read16-k c = walk_none _ _ c.args.self.now.accepted c.args.self.now.bytes _ _ c.read16.ensures c.if-read16-k.true

pub overflow_sub-first : goal.overflow_sub-first
overflow_sub-first c = some_segment _ _ c.args.self.now.accepted c.args.self.now.bytes _ refl (rw (c.directory-directory.ensures.body, c.directory-directory.ensures.n) at c.by_ordinal-first.ensures) (omega (arith, c.read16.ensures))

pub entry-e-requires : goal.entry-e-requires
entry-e-requires c = rw c.directory-directory.ensures.n (holding _ _ c.args.self.now.accepted c.args.self.now.bytes _ refl (rw (c.directory-directory.ensures.body, c.directory-directory.ensures.n) at c.by_ordinal-first.ensures) (omega (arith, c.read16.ensures))).inside

pub overflow_sub-k : goal.overflow_sub-k
overflow_sub-k c = (entry-holds _ _ (rw c.directory-directory.ensures.body at c.entry-e.ensures) (holding _ _ c.args.self.now.accepted c.args.self.now.bytes _ refl (rw (c.directory-directory.ensures.body, c.directory-directory.ensures.n) at c.by_ordinal-first.ensures) (omega (arith, c.read16.ensures)))).0

pub walk_from-requires : goal.walk_from-requires
walk_from-requires c =
    let w = holding _ _ c.args.self.now.accepted c.args.self.now.bytes _ refl (rw (c.directory-directory.ensures.body, c.directory-directory.ensures.n) at c.by_ordinal-first.ensures) (omega (arith, c.read16.ensures)) in
    (w.inside, held_skip _ _ c.args.self.now.accepted c.args.self.now.bytes _ c.args.out.now w (rw c.directory-directory.ensures.body at c.entry-e.ensures))

pub returns : goal.returns
returns c = walk_held _ _ c.args.self.now.accepted c.args.self.now.bytes _ _ (holding _ _ c.args.self.now.accepted c.args.self.now.bytes _ refl (rw (c.directory-directory.ensures.body, c.directory-directory.ensures.n) at c.by_ordinal-first.ensures) (omega (arith, c.read16.ensures))) (rw c.directory-directory.ensures.body at c.entry-e.ensures) c.walk_from.ensures
