-- `runs::check` meets its contract: where a test fails the body is not accepted, and where all pass the last one decides.
-- Assumes nothing.
use Rattle.std.proofs.Common.{◌≡◌, ◌*◌, ◌≤◌, length, refl, ◌∙◌, arith}
use Rattle.fields.specs.Le.{width_of}
use Rattle.model.proofs.Tests.{refuse}
use Rattle.runs.specs.Runs.{stride_of, run_count}
use Rattle.runs.proofs.Parts.{accepts_parts, parts_few, check_stand}
use Rattle.runs.proofs.check.Goals as goal

pub returns-then-offset-body : goal.returns-then-offset-body
returns-then-offset-body c =
    let t = c.new-table.ensures in
    let some : 1 ≤ c.args.count = grind arith in
    let within : c.args.count ≤ c.args.span = grind arith in
    let sized : c.runs_in-runs.result * stride_of (width_of c.args.wide) ≡ length c.args.body.now = grind arith in
    check_stand _ _ _ _ c.runs_in-runs.ensures refl (record { some = some; within = within; most = omega arith }) sized c.most.ensures
    (rw (t.body, t.runs, t.wide) at c.stand.ensures)

pub returns-else-offset-body : goal.returns-else-offset-body
unfolding run_count
returns-else-offset-body c =
    c.if-offset-body.false
    ∙ refuse _ (λ e.
    let p = accepts_parts _ _ _ _ e in
    let some = p.counts.some in
    let within = p.counts.within in
    let few = parts_few p in
    let sized = p.sized in
    grind arith)
