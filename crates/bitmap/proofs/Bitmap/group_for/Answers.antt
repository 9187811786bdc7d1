-- `bitmap::Bitmap::group_for` meets its contract.
-- Assumes nothing.
use Rattle.std.proofs.Common.{◌≡◌, arith}
use Rattle.fields.specs.Le.{width_of}
use Rattle.bitmap.specs.Reading.{group_for}
use Rattle.bitmap.proofs.Locating.{group_in}
use Rattle.bitmap.proofs.Bitmap.group_for.Goals as goal

pub upper-past-requires : goal.upper-past-requires
unfolding width_of
upper-past-requires c = λ i h. omega arith

pub returns : goal.returns
unfolding width_of
returns c =
    let e : c.saturating_sub.result ≡ group_for c.args.self.now.body.now c.args.self.now.span c.args.k = rw (c.saturating_sub.ensures, c.upper-past.ensures, c.groups_of-groups.ensures, c.from.ensures) in
    (e, rw e (group_in _ _ _ c.requires))
