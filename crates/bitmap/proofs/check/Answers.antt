-- `bitmap::check` meets its contract.
-- Assumes nothing.
use Rattle.std.proofs.Common.{◌≡◌, ◌^◌, ◌<◌, ◌≤◌, ltb, true, ◌∙◌, arith}
use Rattle.model.proofs.Tests.{refuse}
use Rattle.bitmap.specs.Body.{number}
use Rattle.bitmap.proofs.Groups.{ok_parts, accept_rest}
use Rattle.bitmap.proofs.check.Goals as goal

pub returns-then-body-groups_of : goal.returns-then-body-groups_of
returns-then-body-groups_of c =
    refuse _ (λ e.
    let sized = (ok_parts _ _ _ e).sized in
    c.if-body-groups_of.true (omega arith))

pub returns-then-within_span : goal.returns-then-within_span
returns-then-within_span c =
    let b = c.new-bitmap.ensures in
    let some : 1 ≤ c.args.count = grind arith in
    let within : c.args.count ≤ c.args.span = grind arith in
    let short : ltb (number c.new-bitmap.result.body.now c.new-bitmap.result.span) (2 ^ c.new-bitmap.result.span) ≡ true = grind arith in
    accept_rest _ _ _ (omega arith) (record { some = some; within = within; most = omega arith }) (rw (b.body, b.span) at short)
    (rw (b.body, b.span) at c.groups_right.ensures)

pub returns-else-within_span : goal.returns-else-within_span
returns-else-within_span c =
    c.if-within_span.false
    ∙ refuse _ (λ e.
    let b = c.new-bitmap.ensures in
    let p = ok_parts _ _ _ e in
    let some = p.count.some in
    let within = p.count.within in
    let short : number c.new-bitmap.result.body.now c.new-bitmap.result.span < 2 ^ c.new-bitmap.result.span = rw (b.body, b.span) p.short in
    grind arith)
