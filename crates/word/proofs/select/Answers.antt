-- `word::select` meets its contract: it looks in the whole word.
-- Assumes nothing.
use Rattle.std.proofs.Common.{rules, refl}
use Rattle.model.proofs.Rising.{rising_below}
use Rattle.word.proofs.Bits.{bits_rising}
use Rattle.word.proofs.select.Goals as goal

pub select_in-requires : goal.select_in-requires
select_in-requires c = record { level = 6; power = refl; inside = c.requires; fits = search rules }

pub returns : goal.returns
returns c = (c.select_in.ensures, rw c.select_in.ensures (rising_below (bits_rising 64 0 c.args.word) c.args.k c.requires))
