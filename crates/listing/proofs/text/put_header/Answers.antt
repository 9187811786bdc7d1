-- `listing::text::put_header` meets its contract: the word is the header.
use Rattle.std.proofs.Common.{arith}
use Rattle.listing.proofs.Spelling.{put_wider}
use Rattle.listing.specs.Text.{ascii, header_text}
use Rattle.listing.proofs.text.put_header.Goals as goal

pub returns : goal.returns
unfolding header_text ascii
returns c = put_wider (omega arith) c.put_word.ensures
