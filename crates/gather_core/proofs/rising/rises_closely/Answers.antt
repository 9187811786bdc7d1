-- `gather_core::rising::rises_closely` meets its contract.
-- Assumes nothing.
use Rattle.std.proofs.Common.{◌∷◌, ◌∙◌, drop, sym, arith, leb-true}
use Rattle.gather_core.proofs.Steps.{rises_so, behind_length, behind_last}
use Rattle.gather_core.proofs.rising.rises_closely.Goals as goal
use Rattle.gather_core.proofs.rising.rises_closely.Goals.{then-few, else-few}

pub returns-then-steps-ge18446462598732840960 : goal.returns-then-steps-ge18446462598732840960
returns-then-steps-ge18446462598732840960 c e =
    let a = c.args in
    let n = behind_length a.first a.rows.now a.from in
    let up = behind_last a.first a.rows.now a.from c.requires.0 (leb-true _ _ e) in
    elim c.if-few.branch [
      | then-few w ↦
          let near = leb-true _ _ (sym w.value-is ∙ c.if-steps-ge18446462598732840960.true) in
          rises_so w.steps.result near (a.first ∷ drop a.from a.rows.now) (omega (arith, n, w.if-few.true)) (rw n w.steps.ensures) up
      | else-few w ↦ absurd (omega (arith, w.if-few.false, leb-true _ _ (sym w.value-is ∙ c.if-steps-ge18446462598732840960.true)))
    ]
