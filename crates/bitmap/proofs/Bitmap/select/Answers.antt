-- `bitmap::Bitmap::select` meets its contract.
-- Assumes nothing.
use Rattle.std.proofs.Common.{rules}
use Rattle.bitmap.specs.Reading.{Standing}
use Rattle.bitmap.proofs.Walking.{spot_select}
use Rattle.bitmap.proofs.Bitmap.select.Goals as goal

pub returns-in-Some : goal.returns-in-Some
returns-in-Some c =
    let s : Standing c.args.self.now.body.now c.args.self.now.span c.args.k c.in-Some.spot = search rules in
    spot_select _ c.args.self.now.bytes _ _ _ s _ _ c.word_at.ensures c.select-place.ensures.0
