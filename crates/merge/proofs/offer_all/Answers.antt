-- Assumes nothing.
use Rattle.std.proofs.Common.{◌≡◌, ℕ, ◌-◌, ◌+◌, ◌<◌, refl, subst, ◌∙◌, arith}
use Rattle.links.specs.Tables.{stat_at}
use Rattle.links.proofs.Segments.{seeds_neighbours}
use Rattle.merge.specs.Steps.{Offering}
use Rattle.merge.proofs.Begin.{offering_none, offering_more}
use Rattle.merge.proofs.offer_all.Goals as goal

pub loop-i-init : goal.loop-i-init
loop-i-init c = record { same_reference = refl; size = refl; offering = rw c.requires.empty (offering_none _ _ _) }

pub offer-requires : goal.offer-requires
offer-requires c =
    let inv = c.loop-i.invariant in
    let l : c.loop-i.i + 1 < c.args.n = omega arith in
    record {
      cuts = (record { lm = omega arith; mr = omega arith; rn = omega arith }, omega arith);
      room = omega (arith, inv.offering.most);
      neighbours = seeds_neighbours _ c.requires.seeds l;
    }

pub loop-i-preserved : goal.loop-i-preserved
loop-i-preserved c =
    let inv = c.loop-i.invariant in
    record {
      same_reference = c.offer.ensures.same_reference ∙ inv.same_reference;
      size = c.offer.ensures.size ∙ inv.size;
      offering = offering_more _ _ _ _ _ _ _ (omega arith) c.offer.ensures.added inv.offering;
    }

pub returns-clause-offering : goal.returns-clause-offering
returns-clause-offering c =
    let all : c.loop-i.i ≡ c.args.n - 1 = omega arith in
    subst (λ (i : ℕ). Offering (stat_at c.args.t.now) c.args.n i c.loop-i.queue.words.now c.loop-i.queue.len) all c.loop-i.invariant.offering
