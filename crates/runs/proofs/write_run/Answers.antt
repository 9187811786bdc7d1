-- `runs::write_run` meets its contract.
-- Assumes nothing.
use Rattle.std.proofs.Common.{refl, ◌∙◌, zero-add, arith}
use Rattle.model.proofs.Ranges.{length-range, get_or-range}
use Rattle.model.proofs.Writing.{filled_start, filled_next, filled_whole}
use Rattle.runs.proofs.Filling.{written_end}
use Rattle.runs.proofs.write_run.Goals as goal

pub loop-j-init : goal.loop-j-init
loop-j-init c = filled_start _ _ _ _ (omega arith)

pub loop-j-preserved : goal.loop-j-preserved
loop-j-preserved c =
    let l = c.loop-j in
    let n = c.min-n.result in
    filled_next l.invariant l.j (omega (arith, length-range 0 n)) (get_or-range 0 n l.j (omega arith) ∙ zero-add l.j) refl (omega arith) refl

pub returns : goal.returns
returns c =
    let l = c.loop-j in
    let n = c.min-n.result in
    (omega arith, filled_whole l.invariant (omega (arith, length-range 0 n)) ∙ rw c.from-2.ensures (written_end c.args.out.now c.args.at c.args.base c.args.e.start c.args.skip n refl refl))
