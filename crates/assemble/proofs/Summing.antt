-- The walk over the records: what all segments cost is what was gathered, and then the rest.
-- Assumes nothing.
use mathlib.Core.Path.{◌≡◌, sym, ap, ◌∙◌}
use mathlib.Core.Logic.{⊎_elim}
use mathlib.Core.List.{List, ◌++◌, append_assoc, append-nil}
use Prim.Native.Nat.{ℕ, ◌+◌, ◌*◌, ◌<◌, ◌≤◌, max}
use native.Mathlib.Nat.{le_trans}
use native.Mathlib.Omega.{arith}
use lib.ListN.{length, length-append}
use borrow.Author.Tests.{le-leb, lt-leb}
use Rattle.model.proofs.Tests.{pick_true, pick_false, order}
use Rattle.model.specs.Lists.{Rising}
use Rattle.model.proofs.Rising.{rising_append, rising_split}
use Rattle.stats.specs.declared.Stats.{Stats}
use Rattle.stats.specs.Statistics.{stats_of, span_of, holes_of, Sound}
use Rattle.stats.proofs.Joining.{stats_append, stats_sound, stats_neighbours}
use Rattle.cost.specs.declared.Form.{Form}
use Rattle.cost.specs.Sizes.{depth_of}
use Rattle.cost.specs.Forms.{local_form, items_form, bitmap_form, dense_form}
use Rattle.cost.proofs.Depths.{depth_least}
use Rattle.cost.proofs.Least.{local_short}
use Rattle.cost.proofs.Chosen.{Local, dense, list, runs, missing, bitmap, local_chosen}
use Rattle.links.specs.Tables.{next, stat_at}
use Rattle.planning.specs.Segments.{stats_each}
use Rattle.planning.specs.Bodies.{payloads, larger, deepest, widest, segmented_form}
use Rattle.planning.specs.Held.{Held}
use Rattle.assemble.specs.declared.Tally.{Tally}
use Rattle.assemble.specs.Sums.{one, also, finished, Bounded, Adds, Known, Summed}
use Rattle.planning.proofs.Sized.{length_each}
use Rattle.assemble.proofs.Records.{same_each, same_rows, Ahead, ahead, behind, within}

-- ---- the larger of two

larger_right : {a b : ℕ} → a ≤ b → larger a b ≡ b
unfolding larger
larger_right {a} {b} h = pick_true b a (le-leb a b h)

larger_left : {a b : ℕ} → b < a → larger a b ≡ a
unfolding larger
larger_left {a} {b} h = pick_false b a (lt-leb a b h)

-- as std has it
pub larger_max : (a b : ℕ) → max a b ≡ larger a b
larger_max a b = ⊎_elim (λ (q : b < a). rw (larger_left q) (omega arith)) (λ (q : a ≤ b). rw (larger_right q) (omega arith)) (order b a)

larger_zero : (a : ℕ) → larger a 0 ≡ a
larger_zero a = ⊎_elim (λ l. larger_left l) (λ l. larger_right l ∙ omega arith) (order 0 a)

larger_assoc : (a b c : ℕ) → larger a (larger b c) ≡ larger (larger a b) c
larger_assoc a b c =
    ⊎_elim
    (λ (p : b < a). ⊎_elim
    (λ (q : c < b). rw (larger_left q, larger_left p) (sym (larger_left (omega arith))))
    (λ (q : b ≤ c). rw (larger_right q, larger_left p))
    (order c b))
    (λ (p : a ≤ b). ⊎_elim
    (λ (q : c < b). rw (larger_left q, larger_right p) (sym (larger_left q)))
    (λ (q : b ≤ c). let w : a ≤ c = omega arith in rw (larger_right q, larger_right w, larger_right p) (sym (larger_right q)))
    (order c b))
    (order b a)

larger_most : {a b m : ℕ} → a ≤ m → b ≤ m → larger a b ≤ m
larger_most {a} {b} h l = ⊎_elim (λ (q : b < a). rw (larger_left q) h) (λ (q : a ≤ b). rw (larger_right q) l) (order b a)

-- ---- the depth of a local form over 65,535 positions

pub shallow : (n : ℕ) → n ≤ 65535 → depth_of n ≤ 64
shallow n h = le_trans (depth_least 16 n (omega arith)) (omega arith)

local_depth : {s : Stats} {f : Form} → Sound s → span_of s ≤ 65535 → Local s f → f.depth ≤ 64
unfolding items_form bitmap_form dense_form
local_depth {s} o h (dense e) = omega arith
local_depth {s} o h list = shallow s.count (omega (arith, o.inside))
local_depth {s} o h runs = shallow s.runs (omega (arith, o.few, o.inside))
local_depth {s} o h missing = shallow (holes_of s) (omega arith)
local_depth {s} o h bitmap = shallow _ (omega arith)

pub form_short : (s : Stats) {f : Form} → span_of s ≤ 65535 → f ≡ local_form s → f.bytes ≤ 8704
form_short s h e = rw e (local_short s h)

-- ---- the walk

-- y is gathered of the rows gone, and the records lead on from x through the rest
pub record Summing (n : ℕ) (t : List ℕ) (x : ℕ) (y : Tally) : Type 0 where
  pub rows : List ℕ
  pub segs : List (List ℕ)
  pub whole : Held n t 0 rows segs
  pub gone : List ℕ
  pub rest : List ℕ
  pub togo : List (List ℕ)
  pub held : Held n t x rest togo
  pub cut : rows ≡ gone ++ rest
  pub some : 1 ≤ length gone
  pub mid : ℕ
  pub passed : Rising 0 mid gone
  pub ahead : Rising mid 4294967295 rest
  pub inside : mid ≤ 4294967295
  pub stats : y.stats ≡ stats_of gone
  pub count : length segs ≡ y.segments + length togo
  pub bytes : payloads (stats_each segs) ≡ y.bytes + payloads (stats_each togo)
  pub depth : deepest (stats_each segs) ≡ larger y.depth (deepest (stats_each togo))
  pub words : widest (stats_each segs) ≡ larger y.words (widest (stats_each togo))
  pub few : y.segments ≤ x
  pub size : y.bytes ≤ 8704 * y.segments
  pub low : y.depth ≤ 64

module _ {n : ℕ} {t : List ℕ} where
  -- the first segment
  first : (k : Known n t) → Ahead n t 0 k.rows k.segs
  first k = ahead (⊎_elim (λ l. l) (λ g. absurd (omega (arith, k.some, ap length (behind g k.held).1))) (order 0 n)) k.held

  pub first_sound : Known n t → Sound (stat_at t 0)
  first_sound k =
      let a = first k in
      let q = rising_split a.seg a.rest (omega arith) (rw a.cut at k.rising) in
      rw a.stats (stats_sound q.front a.some q.high)

  begun_by : (k : Known n t) → Ahead n t 0 k.rows k.segs → Summing n t (next t 0) (one (stat_at t 0))
  unfolding one stats_each payloads deepest widest
  begun_by k a =
      let q = rising_split a.seg a.rest (omega arith) (rw a.cut at k.rising) in
      let short : span_of (stat_at t 0) ≤ 65535 = rw a.stats a.short in
      record {
        rows = k.rows;
        segs = k.segs;
        whole = k.held;
        gone = a.seg;
        rest = a.rest;
        togo = a.segs;
        held = a.held;
        cut = a.cut;
        some = a.some;
        mid = q.mid;
        passed = q.front;
        ahead = q.back;
        inside = q.high;
        stats = a.stats;
        count = rw a.all (omega arith);
        bytes = rw (a.all, a.stats);
        depth = rw (a.all, a.stats);
        words = rw (a.all, a.stats);
        few = omega (arith, a.on);
        size = omega (arith, local_short (stat_at t 0) short);
        low = local_depth (first_sound k) short (local_chosen (stat_at t 0));
      }

  pub begun : Known n t → Summing n t (next t 0) (one (stat_at t 0))
  begun k = begun_by k (first k)

  module _ {x : ℕ} {y : Tally} (s : Summing n t x y) where
    -- the next one can be added, and then it is
    pub adds : n < 65536 → x < n → Adds y (stat_at t x)
    adds k l =
        let a = ahead l s.held in
        let q = rising_split a.seg a.rest s.inside (rw a.cut at s.ahead) in
        record {
          bounded = record { few = omega (arith, s.few); size = s.size; low = s.low };
          pair = rw (s.stats, a.stats) (stats_neighbours s.passed q.front s.some a.some q.low q.high);
          short = rw a.stats a.short;
        }

    added_by : Adds y (stat_at t x) → Ahead n t x s.rest s.togo → Summing n t (next t x) (also y (stat_at t x))
    unfolding also stats_each payloads deepest widest
    added_by d a =
        let q = rising_split a.seg a.rest s.inside (rw a.cut at s.ahead) in
        record {
          rows = s.rows;
          segs = s.segs;
          whole = s.whole;
          gone = s.gone ++ a.seg;
          rest = a.rest;
          togo = a.segs;
          held = a.held;
          cut = s.cut ∙ rw (a.cut, append_assoc);
          some = omega (arith, s.some, length-append s.gone a.seg);
          mid = q.mid;
          passed = rising_append (omega arith) q.low s.passed q.front;
          ahead = q.back;
          inside = q.high;
          stats = rw (s.stats, a.stats) (sym (stats_append s.gone a.seg s.some a.some));
          count = s.count ∙ rw a.all (omega arith);
          bytes = s.bytes ∙ rw (a.all, a.stats) (omega arith);
          depth = s.depth ∙ rw (a.all, a.stats) (larger_assoc y.depth _ _);
          words = s.words ∙ rw (a.all, a.stats) (larger_assoc y.words _ _);
          few = omega (arith, s.few, a.on);
          size = omega (arith, s.size, local_short (stat_at t x) d.short);
          low = larger_most s.low (local_depth d.pair.right d.short (local_chosen (stat_at t x)));
        }

    pub added : n < 65536 → x < n → Summing n t (next t x) (also y (stat_at t x))
    added k l = added_by (adds k l) (ahead l s.held)

    pub bounded : n < 65536 → Bounded y
    bounded k = record { few = omega (arith, s.few, within s.held); size = s.size; low = s.low }

    -- the last one was passed: what was gathered is all
    pub summed : n ≤ x → Summed n t (finished y)
    unfolding finished segmented_form stats_each payloads deepest widest
    summed l =
        let none = behind l s.held in
        let count : length (stats_each s.segs) ≡ y.segments = length_each s.segs ∙ s.count ∙ rw none.1 (omega arith) in
        let bytes : payloads (stats_each s.segs) ≡ y.bytes = s.bytes ∙ rw none.1 (omega arith) in
        let depth : deepest (stats_each s.segs) ≡ y.depth = s.depth ∙ rw none.1 (larger_zero y.depth) in
        let words : widest (stats_each s.segs) ≡ y.words = s.words ∙ rw none.1 (larger_zero y.words) in
        let rows : stats_of s.rows ≡ y.stats = rw (s.cut, none.0, append-nil) (sym s.stats) in
        record {
          segments = λ xs segs h. sym (sym (length_each segs) ∙ rw (same_each h s.whole) count);
          form = λ xs segs h. rw (same_each h s.whole, count, bytes, depth, words);
          stats = λ xs segs h. sym (same_rows h s.whole ∙ rows);
        }
