-- The words are split into the records and those of the queue; the records are those that the start left.
-- Assumes nothing.
use Rattle.std.proofs.Common.{◌≡◌, ℕ, List, length, refl, sym, ap, subst, ◌∙◌, arith}
use lib.Seq.{take_at}
use Rattle.stats.specs.declared.Stats.{Stats}
use Rattle.links.specs.Pairs.{Seeds}
use Rattle.links.specs.Tables.{records, Started}
use Rattle.merge.specs.Steps.{Merged, offers_of}
use Rattle.merge.proofs.State.{state_most}
use Rattle.merge.proofs.Begin.{begin, seeded, stats_kept}
use Rattle.merge.proofs.Loop.{turn_asks, turn, end_count, end_merged, popped_some}
use Rattle.merge.proofs.join_seeds.Goals as goal

pub loop-k-init : goal.loop-k-init
loop-k-init c =
    let st = subst (λ (t : List ℕ). Started c.args.n (records c.args.n c.args.w.now) t) (sym c.split_at_mut-t.ensures.front) c.start.ensures in
    record {
      same_reference = refl;
      size = refl;
      seeds = subst (λ (f : ℕ → Stats). Seeds f c.args.n) (sym (stats_kept _ _ _ st)) c.requires.seeds;
      state = begin (omega arith) c.split_at_mut-t.ensures.front_len (seeded _ _ _ st) c.offer_all.ensures.offering;
    }

pub take_offer-requires-clause-cuts : goal.take_offer-requires-clause-cuts
take_offer-requires-clause-cuts c =
    let inv = c.loop-k.invariant in
    let p = c.in-Some.ensures.popped in
    (turn_asks _ _ _ c.requires.n_nonzero.1 inv.seeds inv.state (popped_some p) p c.decode.result c.decode.ensures).0

pub take_offer-requires-clause-ready : goal.take_offer-requires-clause-ready
take_offer-requires-clause-ready c =
    let inv = c.loop-k.invariant in
    let p = c.in-Some.ensures.popped in
    (turn_asks _ _ _ c.requires.n_nonzero.1 inv.seeds inv.state (popped_some p) p c.decode.result c.decode.ensures).1

pub take_offer-requires-clause-room : goal.take_offer-requires-clause-room
take_offer-requires-clause-room c =
    let inv = c.loop-k.invariant in
    omega (arith, state_most inv.state inv.seeds, popped_some c.in-Some.ensures.popped, c.in-Some.ensures.len, c.in-Some.ensures.size, inv.size, c.offer_all.ensures.size, ap (length {A = ℕ}) c.new-queue.ensures.words, c.split_at_mut-t.ensures.back_len, c.start.auto.w, c.requires.n_nonzero.2)

pub overflow_add-taken : goal.overflow_add-taken
overflow_add-taken c = let inv = c.loop-k.invariant in omega (arith, state_most inv.state inv.seeds)

pub loop-k-smaller : goal.loop-k-smaller
loop-k-smaller c = let inv = c.loop-k.invariant in omega (arith, state_most inv.state inv.seeds, popped_some c.in-Some.ensures.popped)

pub loop-k-preserved : goal.loop-k-preserved
loop-k-preserved c =
    let inv = c.loop-k.invariant in
    let p = c.in-Some.ensures.popped in
    record {
      same_reference = c.take_offer.ensures.same_reference ∙ c.in-Some.ensures.same_reference ∙ inv.same_reference;
      size = c.take_offer.ensures.size ∙ c.in-Some.ensures.size ∙ inv.size;
      seeds = inv.seeds;
      state = turn _ _ _ c.requires.n_nonzero.1 inv.seeds inv.state (popped_some p) p c.decode.result _ _ _ c.decode.ensures (rw c.in-Some.ensures.len at c.take_offer.ensures.taken);
    }

pub returns-clause-value : goal.returns-clause-value
returns-clause-value c =
    let st = subst (λ (t : List ℕ). Started c.args.n (records c.args.n c.args.w.now) t) (sym c.split_at_mut-t.ensures.front) c.start.ensures in
    let none : c.loop-k.queue.len ≡ 0 = c.in_default.ensures.popped in
    subst (λ (f : ℕ → Stats). c.loop-k.taken ≡ offers_of f c.args.n) (stats_kept _ _ _ st) (end_count (omega arith) c.loop-k.invariant.state)

pub returns-clause-upper_bound : goal.returns-clause-upper_bound
returns-clause-upper_bound c = let inv = c.loop-k.invariant in omega (arith, state_most inv.state inv.seeds)

pub returns-clause-merged : goal.returns-clause-merged
returns-clause-merged c =
    let st = subst (λ (t : List ℕ). Started c.args.n (records c.args.n c.args.w.now) t) (sym c.split_at_mut-t.ensures.front) c.start.ensures in
    let none : c.loop-k.queue.len ≡ 0 = c.in_default.ensures.popped in
    let m = subst (λ (f : ℕ → Stats). Merged f c.args.n c.loop-k.t) (stats_kept _ _ _ st) (end_merged (omega arith) c.loop-k.invariant.state) in
    rw (take_at _ _ _ c.loop-k.invariant.state.long) m
