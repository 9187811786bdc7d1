-- `listing::text::put_spaced` meets its contract: one byte in front of the number.
use Rattle.listing.proofs.Spelling.{put_front}
use Rattle.listing.proofs.text.put_spaced.Goals as goal

pub returns : goal.returns
returns c = put_front c.put_decimal.ensures
