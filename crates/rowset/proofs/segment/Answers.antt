-- `rowset::segment` meets its contract: an accepted body of tag 9 has room for its number of entries and for each of them.
use Rattle.std.proofs.Common.{arith}
use Rattle.bodies.proofs.Laws.{nine, nine_room}
use Rattle.segmented.proofs.Named.{directory_of}
use Rattle.rowset.proofs.segment.Goals as goal

pub segments-n-requires : goal.segments-n-requires
segments-n-requires c = omega (arith, nine_room _ _ _ c.in_ok-accepted.ensures.0 (omega arith))

pub new-requires : goal.new-requires
new-requires c = omega (arith, (directory_of _ _ (nine _ _ _ c.in_ok-accepted.ensures.0 (omega arith))).room, c.segments-n.ensures.0)
