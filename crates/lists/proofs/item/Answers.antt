-- `lists::item` meets its contract: item i is the field that begins i widths behind the start.
-- Assumes nothing.
use Rattle.std.proofs.Common.{◌∙◌, arith, suc-mul}
use Rattle.fields.specs.Le.{width_of}
use Rattle.search.proofs.Entries.{entry_at}
use Rattle.lists.proofs.item.Goals as goal

pub field-requires : goal.field-requires
field-requires c = rw c.width.ensures.0 (omega (arith, suc-mul c.args.i (width_of c.args.wide), c.requires))

pub returns : goal.returns
returns c = rw c.width.ensures.0 at c.field.ensures ∙ entry_at _ _ _ _
