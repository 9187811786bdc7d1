-- `word::is_set` meets its contract: a place is in the list where its digit is set.
-- Assumes nothing.
use Rattle.std.proofs.Common.{sym}
use Rattle.word.proofs.Places.{has_bits}
use Rattle.word.proofs.is_set.Goals as goal

pub returns : goal.returns
returns c = sym (has_bits 64 c.args.place c.args.word c.requires)
