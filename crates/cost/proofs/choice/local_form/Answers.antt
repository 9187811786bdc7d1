-- Dense where nothing is missing, else the least of the others.
-- Assumes nothing.
use mathlib.Core.Path.{sym, ◌∙◌}
use native.Mathlib.Omega.{arith}
use borrow.Author.Tests.{ne_eqb}
use Rattle.model.specs.Tests.{pick}
use Rattle.stats.specs.Statistics.{holes_of}
use Rattle.cost.specs.Forms.{least, local_form, local_offers}
use Rattle.cost.proofs.Least.{dense_local}
use Rattle.cost.proofs.choice.local_form.Goals as goal

pub returns-then-holes-eq0 : goal.returns-then-holes-eq0
returns-then-holes-eq0 c =
    c.dense.ensures ∙ sym (dense_local c.args.s (omega (arith, c.local_span-span.ensures.0)) (omega (arith, c.requires.some, c.requires.few)))

pub returns : goal.returns
unfolding local_form local_offers least pick
returns c =
    let n = ne_eqb (holes_of c.args.s) 0 (λ e. omega (arith, e, c.local_span-span.ensures.0)) in
    rw (n, c.cheaper.ensures, c.bitmap.ensures, c.cheaper-d.ensures, c.items-2.ensures, c.cheaper-b.ensures, c.items.ensures, c.items-list.ensures, c.local_span-span.ensures.0)
