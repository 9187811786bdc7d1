-- `assemble::segmented_rows` meets its contract: `Placing` holds at each cut.
-- Assumes nothing.
use native.Mathlib.Omega.{arith}
use lib.ListN.{length-map}
use Rattle.encode.proofs.Directories.{laying_length}
use Rattle.assemble.proofs.Records.{ahead}
use Rattle.assemble.proofs.Placing.{directory_room, placing_start, part_numbers, turn_inside, turn_asks, turn_next, turn_end}
use Rattle.assemble.proofs.segmented_rows.Goals as goal

pub directory_size-at-requires : goal.directory_size-at-requires
directory_size-at-requires g c = omega (arith, directory_room c.requires)

pub loop-x-init : goal.loop-x-init
loop-x-init g c = placing_start c.directory_size-at.ensures c.requires

pub slice_bounds-place_rows-end : goal.slice_bounds-place_rows-end
slice_bounds-place_rows-end g c = omega (arith, turn_inside c.loop-x.invariant c.loop-x-test.true c.segment-s.ensures, length-map c.args.rows.now g.R.Row.number)

pub place_rows-at-requires : goal.place_rows-at-requires
place_rows-at-requires g c = rw part_numbers (turn_asks c.loop-x.invariant c.loop-x-test.true c.segment-s.ensures)

pub loop-x-smaller : goal.loop-x-smaller
loop-x-smaller g c = let a = ahead c.loop-x-test.true c.loop-x.invariant.rest in omega (arith, a.on, c.next-x.ensures.0)

pub loop-x-preserved : goal.loop-x-preserved
loop-x-preserved g c = turn_next c.loop-x.invariant c.loop-x-test.true c.segment-s.ensures (rw part_numbers at c.place_rows-at.ensures) c.next-x.ensures.0

pub overflow_cast-segments : goal.overflow_cast-segments
overflow_cast-segments g c = omega (arith, directory_room c.loop-x.invariant.given)

pub head-requires : goal.head-requires
head-requires g c = let inv = c.loop-x.invariant in omega (arith, laying_length _ _ _ _ inv.laying, directory_room inv.given)

pub returns : goal.returns
returns g c = turn_end c.loop-x.invariant c.loop-x-test.false c.head.ensures
