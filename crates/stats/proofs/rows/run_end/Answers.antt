-- `stats::rows::run_end` meets its contract.
-- Assumes nothing.
use mathlib.Core.Path.{◌≡◌, ◌∙◌, sym}
use native.Mathlib.Omega.{arith}
use lib.ListN.{length, length-map}
use Rattle.stats.proofs.RunByRun.{running_start, running_next, running_stop, running_end}
use Rattle.stats.proofs.rows.run_end.Goals as goal

pub loop-j-init : goal.loop-j-init
loop-j-init g c = running_start _ _ (omega (arith, length-map c.args.rows.now g.R.Row.number))

pub returns-then-not-follows : goal.returns-then-not-follows
returns-then-not-follows g c =
    running_stop _ _ _ c.loop-j.invariant
    (omega (arith, length-map c.args.rows.now g.R.Row.number))
    (rw (← c.row_at.ensures, ← c.row_at-in-loop-j.ensures) (sym c.follows.ensures ∙ c.if-not-follows.true))

pub loop-j-preserved : goal.loop-j-preserved
loop-j-preserved g c =
    running_next _ _ _ c.loop-j.invariant
    (omega (arith, length-map c.args.rows.now g.R.Row.number))
    (rw (← c.row_at.ensures, ← c.row_at-in-loop-j.ensures) (sym c.follows.ensures ∙ c.if-not-follows.false))

pub returns : goal.returns
returns g c =
    let l = length-map c.args.rows.now g.R.Row.number in
    let w = c.loop-j.invariant.within in
    let e : c.loop-j.j ≡ length c.args.rows.now = omega (arith, l) in
    sym e ∙ running_end _ _ _ c.loop-j.invariant (omega (arith, l))
