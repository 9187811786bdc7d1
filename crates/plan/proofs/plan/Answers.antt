-- `plan::plan` meets its contract: the plan is made in the words that the seeds need, and they are zeroed.
-- Assumes nothing.
use Rattle.std.proofs.Common.{[], refl, sym, ap, ◌∙◌, arith}
use Rattle.plan.specs.Plans.{planned_of}
use Rattle.plan.proofs.Steps.{passed_on, early-refused, early_kept, early_left, seeds_few, lent, lent_inside, lent_size, lent_tested, back_room, back_planned}
use Rattle.plan.proofs.plan.Goals as goal

pub returns-in_err-n-clause-result_value : goal.returns-in_err-n-clause-result_value
returns-in_err-n-clause-result_value g c = ap planned_of (passed_on c.from_residual.ensures.1) ∙ early-refused _ c.in_err-n.ensures _ _ c.args.work.now

pub returns-in_err-n-clause-out_after : goal.returns-in_err-n-clause-out_after
returns-in_err-n-clause-out_after g c = early_kept _ c.in_err-n.ensures _ _ c.args.work.now

pub returns-in_err-n-clause-work_after : goal.returns-in_err-n-clause-work_after
returns-in_err-n-clause-work_after g c = early_left _ c.in_err-n.ensures 0 [] _ refl

pub overflow_mul-n : goal.overflow_mul-n
overflow_mul-n g c = omega (arith, seeds_few c.in_ok-n.ensures)

pub slice_bounds-planned-end : goal.slice_bounds-planned-end
slice_bounds-planned-end g c = lent_inside (lent c.in_ok-n.ensures)

pub slice_bounds-planned-end-2 : goal.slice_bounds-planned-end-2
slice_bounds-planned-end-2 g c = sym (lent_size (lent c.in_ok-n.ensures))

pub planned-r-requires : goal.planned-r-requires
planned-r-requires g c = lent_tested (lent c.in_ok-n.ensures)

pub clear-requires : goal.clear-requires
clear-requires g c = back_room (lent c.in_ok-n.ensures) _ c.planned-r.auto.w _

pub returns-clause-result_value : goal.returns-clause-result_value
returns-clause-result_value g c =
    (back_planned (lent c.in_ok-n.ensures) _ c.planned-r.auto.w _ _ c.planned-r.ensures.result_value c.planned-r.ensures.out_after c.clear.ensures).0

pub returns-clause-out_after : goal.returns-clause-out_after
returns-clause-out_after g c =
    (back_planned (lent c.in_ok-n.ensures) _ c.planned-r.auto.w _ _ c.planned-r.ensures.result_value c.planned-r.ensures.out_after c.clear.ensures).1.0

pub returns-clause-work_after : goal.returns-clause-work_after
returns-clause-work_after g c =
    (back_planned (lent c.in_ok-n.ensures) _ c.planned-r.auto.w _ _ c.planned-r.ensures.result_value c.planned-r.ensures.out_after c.clear.ensures).1.1
