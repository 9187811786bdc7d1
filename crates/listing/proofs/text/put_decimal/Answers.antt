-- `listing::text::put_decimal` meets its contract: the counted digits, written, are the number.
use Rattle.listing.proofs.Spelling.{decimal-put}
use Rattle.listing.proofs.text.put_decimal.Goals as goal

pub returns : goal.returns
returns c = decimal-put _ c.width-n.ensures c.put_places.ensures
