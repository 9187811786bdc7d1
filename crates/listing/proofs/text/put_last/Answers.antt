-- `listing::text::put_last` meets its contract: the word, the number and the line's end, one after the other.
use Rattle.std.proofs.Common.{arith}
use Rattle.listing.proofs.Spelling.{put_then, put_wider}
use Rattle.listing.specs.Text.{ascii}
use Rattle.listing.proofs.text.put_last.Goals as goal

pub returns : goal.returns
unfolding ascii
returns c = put_wider (omega arith) (put_then (put_then c.put_word-end.ensures c.put_decimal-number.ensures) c.put_word.ensures)
