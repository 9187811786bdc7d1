-- `word::ones_below` meets its contract: the digits from the place on are shifted out.
-- Assumes nothing.
use Rattle.word.proofs.Bits.{bits_most}
use Rattle.word.proofs.Halves.{ones_shifted}
use Rattle.word.proofs.ones_below.Goals as goal

pub returns : goal.returns
returns c =
    let e = ones_shifted c.args.place c.args.word c.requires in
    (e, rw e (bits_most c.args.place 0 c.args.word))
