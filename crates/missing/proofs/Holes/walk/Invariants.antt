-- `missing::Holes::walk` meets its contract: what stands in the output and what the holes from i on leave are the whole answer.
-- Assumes nothing.
use Rattle.std.proofs.Common.{length, take}
use Rattle.lists.specs.Lists.{list_names}
use Rattle.missing.specs.Missing.{missing_from}
use Rattle.missing.proofs.Walking.{Going}
use Rattle.missing.proofs.Holes.walk.Given as goal

abbrev pub invariant-loop-i : goal.invariant-loop-i
invariant-loop-i l =
    Going (list_names 2 l.self.body.now l.self.count) l.span l.base l.fn.out (take (length l.fn.out) (missing_from l.self.body.now l.span l.self.count l.from)) l.out l.i l.pos l.at
