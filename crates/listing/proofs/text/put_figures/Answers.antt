-- `listing::text::put_figures` meets its contract: five numbers, one after the other.
use Rattle.std.proofs.Common.{append-nil}
use Rattle.listing.proofs.Spelling.{put_then}
use Rattle.listing.specs.Text.{spaced, figures_text}
use Rattle.listing.proofs.text.put_figures.Goals as goal

pub returns : goal.returns
unfolding figures_text spaced
returns c =
    let tag = rw c.from.ensures at c.put_spaced-tag.ensures in
    let span = rw c.from-2.ensures at c.put_spaced-span.ensures in
    let rows = rw c.from-3.ensures at c.put_spaced-rows.ensures in
    let holes = rw c.from-4.ensures at c.put_spaced-holes.ensures in
    let bytes = rw c.from-5.ensures at c.put_spaced.ensures in
    rw append-nil (put_then tag (put_then span (put_then rows (put_then holes bytes))))
