-- `plan::planned` meets its contract.
-- Assumes nothing.
use Rattle.std.proofs.Common.{refl, ap, ◌∙◌, arith}
use Rattle.plan.specs.Plans.{planned_of}
use Rattle.plan.proofs.Steps.{passed_on, coverage, seedable, seeded, chosen, late-refused, late_kept, body_writable, body_small, body_planned}
use Rattle.plan.proofs.planned.Goals as goal

pub overflow_sub-span : goal.overflow_sub-span
overflow_sub-span g c = omega (arith, (coverage _ _ _ _ _ _ c.requires).0)

pub overflow_cast-span : goal.overflow_cast-span
overflow_cast-span g c = let k = coverage _ _ _ _ _ _ c.requires in omega (arith, k.0, k.1)

pub put_rows-requires : goal.put_rows-requires
put_rows-requires g c = seedable _ _ _ _ _ _ c.requires

pub decide-d-requires : goal.decide-d-requires
decide-d-requires g c = (_, _, seeded _ _ _ _ _ _ c.requires _ refl _ c.put_rows.ensures)

pub returns-in_err-late-clause-result_value : goal.returns-in_err-late-clause-result_value
returns-in_err-late-clause-result_value g c =
    ap planned_of (passed_on c.from_residual.ensures.1) ∙ late-refused _ (chosen c.requires refl c.put_rows.ensures c.decide-d.auto.w c.decide-d.ensures c.in_err-late.ensures)

pub returns-in_err-late-clause-out_after : goal.returns-in_err-late-clause-out_after
returns-in_err-late-clause-out_after g c =
    late_kept _ (chosen c.requires refl c.put_rows.ensures c.decide-d.auto.w c.decide-d.ensures c.in_err-late.ensures)

pub body_rows-requires : goal.body_rows-requires
body_rows-requires g c = body_writable (chosen c.requires refl c.put_rows.ensures c.decide-d.auto.w c.decide-d.ensures c.in_ok-late.ensures) refl

pub made-requires : goal.made-requires
made-requires g c = body_small (chosen c.requires refl c.put_rows.ensures c.decide-d.auto.w c.decide-d.ensures c.in_ok-late.ensures) refl

pub returns-clause-result_value : goal.returns-clause-result_value
returns-clause-result_value g c =
    (body_planned (chosen c.requires refl c.put_rows.ensures c.decide-d.auto.w c.decide-d.ensures c.in_ok-late.ensures) refl _ c.made.ensures c.body_rows.ensures).0

pub returns-clause-out_after : goal.returns-clause-out_after
returns-clause-out_after g c =
    (body_planned (chosen c.requires refl c.put_rows.ensures c.decide-d.auto.w c.decide-d.ensures c.in_ok-late.ensures) refl _ c.made.ensures c.body_rows.ensures).1
