-- `missing::Holes::place` meets its contract: past the span, or beside the holes.
-- Assumes nothing.
use Rattle.std.proofs.Common.{sym, lt-ltb, le-ltb}
use Rattle.fields.specs.Le.{width_of}
use Rattle.model.proofs.Tests.{pick_true, pick_false}
use Rattle.missing.specs.Missing.{missing_place, besides}
use Rattle.missing.proofs.Holes.place.Goals as goal

pub returns-then-span-p : goal.returns-then-span-p
unfolding missing_place
returns-then-span-p c = rw (c.saturating_sub.ensures, c.from.ensures) (sym (pick_false _ _ (le-ltb _ _ c.if-span-p.true)))

pub new-requires : goal.new-requires
unfolding width_of
new-requires c = c.args.self.now.sized

pub returns : goal.returns
unfolding missing_place besides width_of
returns c = rw (c.saturating_sub-2.ensures, c.place-hole.ensures, c.new.ensures.body, c.new.ensures.count, c.new.ensures.wide) (sym (pick_true _ _ (lt-ltb _ _ c.if-span-p.false)))
