-- `single::check` meets its contract, test by test.
-- Assumes nothing.
use Rattle.std.proofs.Common.{arith, sym, ◌∙◌, leb-true}
use Rattle.single.proofs.Laws.{single_short, single_fields, single_view}
use Rattle.single.proofs.check.Goals as goal
use Rattle.single.proofs.check.Goals.{then-header-body, else-header-body}

pub returns-then-fields_ok : goal.returns-then-fields_ok
returns-then-fields_ok c =
    elim c.if-header-body.branch [
      | then-header-body w ↦ single_view _ _ _ (sym w.fields_ok.ensures ∙ sym w.value-is ∙ c.if-fields_ok.true) c.parse.ensures c.view_ok.ensures
      | else-header-body w ↦ absurd (omega (arith, leb-true _ _ (sym w.value-is ∙ c.if-fields_ok.true)))
    ]

pub returns-else-fields_ok : goal.returns-else-fields_ok
returns-else-fields_ok c =
    rw c.if-fields_ok.false
    (elim c.if-header-body.branch [
      | then-header-body w ↦ single_fields _ _ _ (sym w.fields_ok.ensures ∙ sym w.value-is ∙ c.if-fields_ok.false)
      | else-header-body w ↦ single_short _ _ _ (omega arith)
    ])
