-- `listing::text::put_word` meets its contract: the copied word stands in place.
use Rattle.listing.proofs.Spelling.{word-put}
use Rattle.listing.proofs.text.put_word.Goals as goal

pub returns : goal.returns
returns c = word-put c.requires c.copy_from_slice.ensures.after
