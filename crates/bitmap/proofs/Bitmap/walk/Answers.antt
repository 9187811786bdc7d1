-- `bitmap::Bitmap::walk` meets its contract.
-- Assumes nothing.
use Rattle.std.proofs.Common.{rules}
use Rattle.bitmap.specs.Reading.{Standing}
use Rattle.bitmap.proofs.Walking.{no_walk, spot_walk}
use Rattle.bitmap.proofs.Bitmap.walk.Goals as goal

pub returns-in-Some : goal.returns-in-Some
returns-in-Some c =
    let s : Standing c.args.self.now.body.now c.args.self.now.span c.args.k c.in-Some.spot = search rules in
    let e = spot_walk _ c.args.self.now.bytes _ _ _ s _ _ c.word_at.ensures c.skip-word.ensures in
    rw (← e) c.fill.ensures

pub returns-in-None : goal.returns-in-None
returns-in-None c = no_walk _ _ _ _ _ (search rules)
