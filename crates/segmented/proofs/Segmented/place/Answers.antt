-- `segmented::Segmented::place` meets its contract.
-- Assumes nothing.
use Rattle.std.proofs.Common.{arith, refl}
use Rattle.segmented.proofs.Laws.{entry_start}
use Rattle.segmented.proofs.Named.{entry_readable, no_segment, placed, segment_passed, segment_answers}
use Rattle.segmented.proofs.Segmented.place.Goals as goal

pub returns-in_default : goal.returns-in_default
returns-in_default c = no_segment _ _ c.args.self.now.accepted c.args.self.now.bytes _ refl (rw (c.directory-directory.ensures.body, c.directory-directory.ensures.n) at c.by_start.ensures) (omega (arith, c.in_default.ensures))

pub entry-e-requires : goal.entry-e-requires
entry-e-requires c = rw c.directory-directory.ensures.n (placed _ _ c.args.self.now.accepted c.args.self.now.bytes _ refl (rw (c.directory-directory.ensures.body, c.directory-directory.ensures.n) at c.by_start.ensures) c.in-Some.ensures.0 c.in-Some.ensures.1).inside

pub overflow_sub-p : goal.overflow_sub-p
overflow_sub-p c = entry_start _ _ (rw c.directory-directory.ensures.body at c.entry-e.ensures) (placed _ _ c.args.self.now.accepted c.args.self.now.bytes _ refl (rw (c.directory-directory.ensures.body, c.directory-directory.ensures.n) at c.by_start.ensures) c.in-Some.ensures.0 c.in-Some.ensures.1).from

pub returns-then-from-p : goal.returns-then-from-p
returns-then-from-p c =
    rw (c.from-then-from-p.ensures, c.from-then-from-p-2.ensures)
    (segment_passed _ _ c.args.self.now.accepted c.args.self.now.bytes _ refl (rw (c.directory-directory.ensures.body, c.directory-directory.ensures.n) at c.by_start.ensures) c.in-Some.ensures.0 c.in-Some.ensures.1 (rw c.directory-directory.ensures.body at c.entry-e.ensures) (rw c.from.ensures at c.if-from-p.true))

pub invariant_of-part : goal.invariant_of-part
invariant_of-part c = record { readable = entry_readable _ _ c.args.self.now.accepted _ (placed _ _ c.args.self.now.accepted c.args.self.now.bytes _ refl (rw (c.directory-directory.ensures.body, c.directory-directory.ensures.n) at c.by_start.ensures) c.in-Some.ensures.0 c.in-Some.ensures.1).inside (rw c.directory-directory.ensures.body at c.entry-e.ensures) }

pub place-requires : goal.place-requires
place-requires c = entry_start _ _ (rw c.directory-directory.ensures.body at c.entry-e.ensures) (placed _ _ c.args.self.now.accepted c.args.self.now.bytes _ refl (rw (c.directory-directory.ensures.body, c.directory-directory.ensures.n) at c.by_start.ensures) c.in-Some.ensures.0 c.in-Some.ensures.1).from

pub returns : goal.returns
returns c = segment_answers _ _ c.args.self.now.accepted c.args.self.now.bytes _ refl (rw (c.directory-directory.ensures.body, c.directory-directory.ensures.n) at c.by_start.ensures) c.in-Some.ensures.0 c.in-Some.ensures.1 (rw c.directory-directory.ensures.body at c.entry-e.ensures) c.place.ensures
