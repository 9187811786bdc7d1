-- `rowset::rank` meets its contract: the rank of a position in an accepted body has 16 bits.
use Rattle.rowset.proofs.Asking.{small_rank}
use Rattle.rowset.proofs.rank.Goals as goal

pub of_place-requires : goal.of_place-requires
of_place-requires c = small_rank _ _ _ c.args.position c.in_ok-accepted.accepted.accepted c.in_ok-accepted.accepted.bytes c.place.ensures
