-- `model::each::answer_each` meets its contract.
-- Assumes nothing.
use Rattle.std.proofs.Common.{rules}
use Rattle.model.proofs.Ranking.{answering_start, answering_next, answering_end}
use Rattle.model.proofs.each.answer_each.Goals as goal

pub loop-i-init : goal.loop-i-init
loop-i-init g c = λ f h. answering_start _ _ _ c.requires.fits

pub loop-i-preserved : goal.loop-i-preserved
loop-i-preserved g c =
    let e = c.answer.ensures in
    λ f h. answering_next (c.loop-i.invariant f h) c.loop-i-test.true (h _ _ (search rules) e)

pub returns : goal.returns
returns g c = λ f h. answering_end (c.loop-i.invariant f h) c.loop-i-test.false
