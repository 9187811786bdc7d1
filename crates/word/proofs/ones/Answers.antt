-- `word::ones` meets its contract: a word has no digits past 64.
-- Assumes nothing.
use Rattle.std.proofs.Common.{◌<◌, ◌^◌, sym, arith}
use lib.Count.{ones-le}
use Rattle.word.proofs.Bits.{bits_ones}
use Rattle.word.proofs.ones.Goals as goal

pub returns : goal.returns
returns c = let h : c.args.word < 2 ^ 64 = omega arith in (sym (bits_ones 64 0 c.args.word h), ones-le 64 c.args.word h)
