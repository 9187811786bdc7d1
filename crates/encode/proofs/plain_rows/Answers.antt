-- `encode::plain_rows` meets its contract: the header, and the local layout behind it.
-- Assumes nothing.
use mathlib.Core.List.{map}
use lib.ListN.{length-map}
use Rattle.encode.proofs.Wholes.{plain_own, plain_head, rest_room, both-written}
use Rattle.encode.proofs.plain_rows.Goals as goal

pub plain_header-p-requires : goal.plain_header-p-requires
plain_header-p-requires g c = rw length-map at (plain_head _ _ _ _ c.requires.2 c.requires.3)

pub local_rows-requires : goal.local_rows-requires
local_rows-requires g c =
    let own = rw length-map at (plain_own c.args.tag c.args.span c.args.start (map g.R.Row.number c.args.rows.now) c.requires.2) in
    (c.requires.0, c.requires.1, rest_room _ _ own c.plain_header-p.ensures c.requires.3)

pub returns : goal.returns
returns g c =
    let own = rw length-map at (plain_own c.args.tag c.args.span c.args.start (map g.R.Row.number c.args.rows.now) c.requires.2) in
    both-written _ _ own c.plain_header-p.ensures c.local_rows.ensures
