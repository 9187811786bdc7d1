-- The fewest of the four numbers.
-- Assumes nothing.
use mathlib.Core.Path.{◌≡◌}
use native.Mathlib.Omega.{arith}
use Rattle.cost.specs.Forms.{payload}
use Rattle.cost.proofs.Bytes.{payload_is, payload_most}
use Rattle.cost.proofs.choice.payload.Goals as goal

pub returns : goal.returns
returns c =
    let e : c.min-2.result ≡ payload c.args.s = omega (arith, payload_is c.args.s) in
    (e, omega (arith, payload_most c.args.s))
