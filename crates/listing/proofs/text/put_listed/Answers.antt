-- `listing::text::put_listed` meets its contract: the record's number, its figures and the line's end, one after the other.
use Rattle.listing.proofs.Spelling.{put_then}
use Rattle.listing.specs.Text.{ascii, text_of}
use Rattle.listing.proofs.text.put_listed.Goals as goal

pub returns : goal.returns
unfolding text_of ascii
returns c = put_then (put_then c.put_decimal-number.ensures c.put_figures-figures.ensures) c.put_word.ensures
