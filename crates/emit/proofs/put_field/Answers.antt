-- `emit::put_field` meets its contract: each arm writes at the width that the flag means.
-- Assumes nothing.
use mathlib.Core.Path.{◌∙◌}
use Rattle.fields.specs.Le.{width_of}
use Rattle.emit.proofs.Pieces.{put_low}
use Rattle.emit.proofs.put_field.Goals as goal

pub put32-requires : goal.put32-requires
unfolding width_of
put32-requires c = rw c.if-wide.true at c.requires

pub put16-requires : goal.put16-requires
unfolding width_of
put16-requires c = rw c.if-wide.false at c.requires

pub returns-then-wide : goal.returns-then-wide
unfolding width_of
returns-then-wide c = rw c.if-wide.true c.put32.ensures

pub returns-else-wide : goal.returns-else-wide
unfolding width_of
returns-else-wide c = rw c.if-wide.false (c.put16.ensures ∙ put_low 2 _ _ _)
