-- `segmented::Segmented::select` meets its contract.
-- Assumes nothing.
use Rattle.std.proofs.Common.{refl}
use Rattle.segmented.proofs.Laws.{entry-holds}
use Rattle.segmented.proofs.Named.{entry_readable, some_segment, holding, segment_selects}
use Rattle.segmented.proofs.Segmented.select.Goals as goal

pub overflow_sub-last : goal.overflow_sub-last
overflow_sub-last c = some_segment _ _ c.args.self.now.accepted c.args.self.now.bytes _ refl (rw (c.directory-directory.ensures.body, c.directory-directory.ensures.n) at c.by_ordinal-last.ensures) c.requires

pub entry-requires : goal.entry-requires
entry-requires c = rw c.directory-directory.ensures.n (holding _ _ c.args.self.now.accepted c.args.self.now.bytes _ refl (rw (c.directory-directory.ensures.body, c.directory-directory.ensures.n) at c.by_ordinal-last.ensures) c.requires).inside

pub invariant_of-part : goal.invariant_of-part
invariant_of-part c = record { readable = entry_readable _ _ c.args.self.now.accepted _ (holding _ _ c.args.self.now.accepted c.args.self.now.bytes _ refl (rw (c.directory-directory.ensures.body, c.directory-directory.ensures.n) at c.by_ordinal-last.ensures) c.requires).inside (rw c.directory-directory.ensures.body at c.entry.ensures) }

pub select-requires : goal.select-requires
select-requires c = entry-holds _ _ (rw c.directory-directory.ensures.body at c.entry.ensures) (holding _ _ c.args.self.now.accepted c.args.self.now.bytes _ refl (rw (c.directory-directory.ensures.body, c.directory-directory.ensures.n) at c.by_ordinal-last.ensures) c.requires)

pub returns : goal.returns
returns c = segment_selects _ _ c.args.self.now.accepted c.args.self.now.bytes _ refl (rw (c.directory-directory.ensures.body, c.directory-directory.ensures.n) at c.by_ordinal-last.ensures) c.requires c.args.self.now.narrow (rw c.directory-directory.ensures.body at c.entry.ensures) c.select.ensures
