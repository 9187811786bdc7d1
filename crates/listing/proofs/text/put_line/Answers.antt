-- `listing::text::put_line` meets its contract: each arm puts the text of its case.
use Rattle.std.proofs.Common.{arith}
use Rattle.listing.proofs.Spelling.{put_wider}
use Rattle.listing.specs.Text.{ascii, text_of}
use Rattle.listing.proofs.text.put_line.Goals as goal

pub returns-in-Broken : goal.returns-in-Broken
unfolding text_of ascii
returns-in-Broken c = rw c.in-Broken.is (put_wider (omega arith) c.put_last.ensures)

pub returns-in-Version : goal.returns-in-Version
unfolding text_of ascii
returns-in-Version c = rw c.in-Version.is (put_wider (omega arith) c.put_word.ensures)

pub returns-in-End : goal.returns-in-End
unfolding text_of ascii
returns-in-End c = rw c.in-End.is (put_wider (omega arith) c.put_last-in-End.ensures)
