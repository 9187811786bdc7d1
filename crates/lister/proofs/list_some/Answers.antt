-- `lister::list_some` goes on where the record that it listed ends: one more stands behind those that it passed over.
use Rattle.std.proofs.Common.{arith}
use Rattle.lister.proofs.Laws.{record_within, passed_next}
use Rattle.lister.proofs.list_some.Goals as goal

pub loop-n-preserved : goal.loop-n-preserved
loop-n-preserved c =
    let inv = c.loop-n.invariant in
    let within = record_within _ _ _ _ c.in-Record.ensures inv.inside c.requires.from_le_hi.1 in
    record {
      counted = omega (arith, inv);
      passed = passed_next inv.passed inv.counted c.in-Record.ensures inv.inside c.requires.from_le_hi.1 (omega arith) (omega arith);
      forward = omega (arith, inv);
      inside = omega (arith, within);
      records = omega (arith, inv, within);
      fits = omega (arith, c.room-text.ensures, c.put_line-at.ensures.ends, c.put_line-at.ensures.short);
      same = cc;
    }
