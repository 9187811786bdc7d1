-- `listing::text::put_refused` meets its contract: the record's number, and the word.
use Rattle.listing.proofs.Spelling.{put_then}
use Rattle.listing.specs.Text.{ascii, text_of}
use Rattle.listing.proofs.text.put_refused.Goals as goal

pub returns : goal.returns
unfolding text_of ascii
returns c = put_then c.put_decimal-number.ensures c.put_word.ensures
