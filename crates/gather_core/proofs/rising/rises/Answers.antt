-- `gather_core::rising::rises` meets its contract.
-- Assumes nothing.
use Rattle.std.proofs.Common.{sym, arith, rules, ltb}
use Rattle.std.proofs.lemmas.List.Sorted.{answers_always}
use Rattle.gather_core.proofs.Climbing.{rises_none, sorted_rises}
use Rattle.gather_core.proofs.rising.rises.Goals as goal

pub returns-in-None : goal.returns-in-None
returns-in-None c = let e = c.in-None.ensures in sym (rises_none _ (omega arith))

pub returns-else-rises_closely : goal.returns-else-rises_closely
returns-else-rises_closely c = sorted_rises _ _ (c.is_sorted_by.ensures.cases ltb (answers_always _ _ _ (λ f a r f' k. search rules)))
