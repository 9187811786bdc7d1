-- Assumes nothing.
use mathlib.Core.Path.{◌≡◌, ap}
use native.Mathlib.Omega.{arith}
use Prim.Native.Nat.{◌+◌, ◌-◌}
use Rattle.cost.specs.Forms.{payload}
use Rattle.links.specs.Pairs.{saves}
use Rattle.links.proofs.Segments.{join_sound, admits_pays, saves_small}
use Rattle.links.proofs.saving.Goals as goal

pub payload-requires-3 : goal.payload-requires-3
payload-requires-3 c = join_sound _ _ _ c.join.ensures c.requires.neighbours

pub overflow_sub-result : goal.overflow_sub-result
overflow_sub-result c = omega (arith, c.payload-3.ensures.0, ap payload c.join.ensures, admits_pays c.args.a c.args.b c.requires.b_value)

pub returns : goal.returns
unfolding saves
returns c =
    let e : 16 + c.payload.result + c.payload-2.result - c.payload-3.result ≡ saves c.args.a c.args.b =
    rw (c.payload.ensures.0, c.payload-2.ensures.0, c.payload-3.ensures.0, c.join.ensures) in
    (e, omega (arith, saves_small c.args.a c.args.b c.requires.neighbours c.requires.b_value))
