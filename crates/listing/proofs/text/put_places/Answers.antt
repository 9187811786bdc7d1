-- `listing::text::put_places` meets its contract: what is left to write, over what is written, is the whole.
use Rattle.listing.proofs.Spelling.{placing_start, placing_next, placing_end}
use Rattle.listing.proofs.text.put_places.Goals as goal

pub loop-left-init : goal.loop-left-init
loop-left-init c = placing_start _ _ _ _

pub loop-left-preserved : goal.loop-left-preserved
loop-left-preserved c = placing_next c.loop-left.invariant c.loop-left-test.true c.digit.ensures

pub returns : goal.returns
returns c = placing_end c.loop-left.invariant c.loop-left-test.false
