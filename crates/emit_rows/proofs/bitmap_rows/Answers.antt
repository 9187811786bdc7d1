-- `emit_rows::bitmap_rows` meets its contract: word after word.
-- Assumes nothing.
use native.Mathlib.Nat.{le_refl}
use native.Mathlib.Omega.{arith}
use Rattle.model.proofs.Rising.{rising_wider}
use Rattle.emit.proofs.Passing.{positions_below}
use Rattle.emit.proofs.Looking.{sight_none}
use Rattle.emit.proofs.Wording.{mapping_start, mapping_next, mapping_end}
use Rattle.emit_rows.proofs.bitmap_rows.Goals as goal

pub loop-k-init : goal.loop-k-init
loop-k-init g c = (mapping_start _ _ _ _ (rw c.groups_of.ensures), sight_none (omega arith), omega arith)

pub word_rows-passed-requires : goal.word_rows-passed-requires
word_rows-passed-requires g c =
    let p = c.requires in
    let v = c.loop-k.invariant in
    (rising_wider (le_refl _) (omega arith) p.0, v.0.cut, v.1, v.2)

pub loop-k-preserved : goal.loop-k-preserved
loop-k-preserved g c =
    let e = c.word_rows-passed.ensures in
    (mapping_next _ _ _ _ c.loop-k.invariant.0 (rw c.words_of-k-end.ensures at c.loop-k-test.true) e.0 c.put_before.ensures c.put64.ensures, e.1, e.2)

pub returns : goal.returns
returns g c = mapping_end _ _ _ _ c.loop-k.invariant.0 (positions_below _ _ c.requires.0) (rw c.words_of-k-end.ensures at c.loop-k-test.false)
