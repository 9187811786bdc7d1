-- `segmented::Segmented::walk_from` meets its contract.
-- Assumes nothing.
use Rattle.std.proofs.Common.{arith}
use Rattle.segmented.proofs.Named.{directory_of, entry_readable, segment_walk}
use Rattle.segmented.proofs.Walks.{going_start, going_length, going_room, going_next, going_end, going_full}
use Rattle.segmented.proofs.Segmented.walk_from.Goals as goal

pub segments-n-requires : goal.segments-n-requires
segments-n-requires c = omega (arith, (directory_of _ _ c.args.self.now.accepted).room)

pub loop-i-init : goal.loop-i-init
loop-i-init c = going_start _ _ _ _ c.requires.0 c.requires.1

pub returns-then-out-at : goal.returns-then-out-at
returns-then-out-at c = going_full _ _ c.args.self.now.accepted c.args.self.now.bytes c.loop-i.invariant (omega (arith, going_length _ _ c.args.self.now.accepted c.args.self.now.bytes c.loop-i.invariant))

pub entry-requires : goal.entry-requires
entry-requires c = rw c.directory-directory.ensures.n (omega (arith, c.segments-n.ensures.0))

pub invariant_of-part : goal.invariant_of-part
invariant_of-part c = record { readable = entry_readable _ _ c.args.self.now.accepted _ (omega (arith, c.segments-n.ensures.0)) (rw c.directory-directory.ensures.body at c.entry.ensures) }

pub walk_at-at-requires : goal.walk_at-at-requires
walk_at-at-requires c = omega (arith, going_length _ _ c.args.self.now.accepted c.args.self.now.bytes c.loop-i.invariant)

pub overflow_add-at : goal.overflow_add-at
overflow_add-at c = omega (arith, going_room _ _ c.args.self.now.accepted c.args.self.now.bytes c.loop-i.invariant (omega (arith, c.segments-n.ensures.0)) (segment_walk _ _ c.args.self.now.accepted c.args.self.now.bytes _ (omega (arith, c.segments-n.ensures.0)) (rw c.directory-directory.ensures.body at c.entry.ensures) _ _) c.walk_at-at.ensures)

pub loop-i-preserved : goal.loop-i-preserved
loop-i-preserved c = going_next _ _ c.args.self.now.accepted c.args.self.now.bytes c.loop-i.invariant (omega (arith, c.segments-n.ensures.0)) (segment_walk _ _ c.args.self.now.accepted c.args.self.now.bytes _ (omega (arith, c.segments-n.ensures.0)) (rw c.directory-directory.ensures.body at c.entry.ensures) _ _) c.walk_at-at.ensures (omega arith)

pub returns : goal.returns
returns c = going_end _ _ c.args.self.now.accepted c.args.self.now.bytes c.loop-i.invariant (omega (arith, c.segments-n.ensures.0))
