-- `word::skip` meets its contract: the rest names what is left when the lowest places are passed over.
-- Assumes nothing.
use Rattle.std.proofs.Common.{◌≡◌, drop}
use Rattle.word.specs.Bits.{bits_of}
use Rattle.word.proofs.skip.Given as goal

abbrev pub invariant-loop : goal.invariant-loop
invariant-loop l = bits_of l.rest ≡ drop l.counter (bits_of l.word)
