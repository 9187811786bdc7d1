-- `word::select_in` meets its contract: a half asks for the same place.
-- Assumes nothing.
use Rattle.std.proofs.Common.{arith}
use Rattle.word.proofs.Halves.{last_digit}
use Rattle.word.proofs.+select_in.Goals as goal

pub returns-then-width-le1 : goal.returns-then-width-le1
returns-then-width-le1 t c = last_digit _ _ _ _ (omega arith) c.requires
