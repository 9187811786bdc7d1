-- `plan::decide` meets its contract: what merging leaves is what the seeds promise, and the summary is of those segments.
-- Assumes nothing.
use Rattle.std.proofs.Common.{◌∙◌, arith}
use Rattle.model.proofs.Rising.{rising_wider}
use Rattle.planning.specs.Bodies.{form_for}
use Rattle.planning.specs.Segments.{segments_of}
use Rattle.planning.proofs.Narrow.{parts_some}
use Rattle.planning.proofs.Holding.{held_parts}
use Rattle.plan.proofs.Choice.{over_stats, tag_nine}
use Rattle.plan.proofs.decide.Goals as goal

pub summarize-sum-requires : goal.summarize-sum-requires
summarize-sum-requires c =
    let p = c.requires in
    let m = p.2 in
    let h = m.held _ c.join_seeds-offers.auto.w c.join_seeds-offers.ensures.merged in
    record {
      seeds = m.most;
      room = omega (arith, m.room, m.some, c.join_seeds-offers.auto.w);
      rows = p.0;
      rising = rising_wider (omega arith) m.wide m.rising;
      segs = segments_of p.0 p.1;
      some = parts_some (held_parts h) m.rows;
      held = h;
    }

pub whole_form-whole-requires : goal.whole_form-whole-requires
whole_form-whole-requires c =
    let m = c.requires.2 in
    rw (c.summarize-sum.ensures.stats _ _ (m.held _ c.join_seeds-offers.auto.w c.join_seeds-offers.ensures.merged)) (over_stats m.rising m.rows m.wide)

pub choose-requires : goal.choose-requires
choose-requires c =
    let m = c.requires.2 in
    rw (c.summarize-sum.ensures.form _ _ (m.held _ c.join_seeds-offers.auto.w c.join_seeds-offers.ensures.merged)) (tag_nine _)

pub returns : goal.returns
unfolding form_for
returns c = λ xs ends m.
    let h = m.held _ c.join_seeds-offers.auto.w c.join_seeds-offers.ensures.merged in
    let s = c.summarize-sum.ensures in
    record {
      held = h;
      sum = s;
      form = c.choose.ensures ∙ rw (c.whole_form-whole.ensures, s.segments xs (segments_of xs ends) h, s.form xs (segments_of xs ends) h, s.stats xs (segments_of xs ends) h);
      offers = c.join_seeds-offers.ensures.value ∙ m.offers;
      most = c.join_seeds-offers.ensures.upper_bound;
    }
