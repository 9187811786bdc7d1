-- `word::lowest` meets its contract: the lowest set digit, and the number without it.
-- Assumes nothing.
use Rattle.std.proofs.Common.{◌<◌, ◌%◌, ◌^◌, zero-add, arith}
use Rattle.word.proofs.Halves.{bits_next, trailing_lt}
use Rattle.word.proofs.lowest.Goals as goal

pub returns : goal.returns
returns c =
    let w = c.args.word in
    let pos : 0 < w % 2 ^ 64 = omega arith in
    (rw zero-add at (bits_next 64 0 w pos), trailing_lt 64 w pos)
