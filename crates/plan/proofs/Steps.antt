-- Planning step by step, over the numbers of its rows: what each call in the code asks, and what is known after it.
-- Assumes nothing.
use mathlib.Core.Path.{◌≡◌, refl, sym, ap, ◌∙◌}
use mathlib.Core.List.{List, ◌++◌}
use Prim.Native.Nat.{ℕ, ◌+◌, ◌*◌, ◌-◌, ◌<◌, ◌≤◌}
use native.Mathlib.Omega.{arith}
use lib.ListN.{length, take, drop, replicate, length-append, length-replicate}
use lib.Seq.{length-take-le}
use Rattle.model.specs.Answers.{Answer, accepted, over}
use Rattle.model.specs.Lists.{positions_of}
use Rattle.model.specs.declared.refusal.Refusal.{Refusal}
use Rattle.model.specs.declared.refusal.Refusal.TheVariants as refusal
use Rattle.model.specs.Refusals.{number_of}
use Rattle.std.proofs.Common.{Result, Ok, Err}
use Rattle.std.specs.Result.{IsErrAnd}
use Rattle.std.proofs.lemmas.Result.{err_from_is_err_and}
use Rattle.plan.specs.declared.Body.{Body}
use Rattle.plan.specs.Plans.{values_of, planned_of}
use Rattle.planning.specs.Refusals.{ends_of, early_number}
use Rattle.planning.specs.Planning.{planned_form, late_number, planned_values, plan_of, plan_out, plan_work}
use Rattle.planning.proofs.Dividing.{Divided, early_divided, early-given}
use Rattle.planning.proofs.Sound.{late_zero}
use Rattle.seeds.specs.Judged.{Judged}
use Rattle.seeds.specs.Placed.{Seeded, Placed}
use Rattle.assemble.specs.Emission.{Writable, Laid}
use Rattle.plan.specs.declared.Decision.{Decision}
use Rattle.plan.specs.Merging.{Tested, Mergeable, Decided}
use Rattle.plan.proofs.Ready.{mergeable, roomy, writable, segments_few, decided_late, decided_values, decided_body}
use Rattle.plan.proofs.Answers.{early_answer, early_out, early_work, cut_early, late_answer, late_out, made_answer, made_out, cut_answer, cut_out, over_back, cleared}

-- ---- a refusal that is passed on

number_some : (r : Refusal) → number_of r ≡ 0 → ⊥
number_some refusal.Coverage e = omega arith
number_some refusal.RowCount e = omega arith
number_some refusal.Order e = omega arith
number_some refusal.SeedEnds e = omega arith
number_some refusal.Workspace e = omega arith
number_some refusal.Limit e = omega arith
number_some refusal.Output e = omega arith
number_some refusal.Body e = omega arith
number_some refusal.Block e = omega arith
number_some refusal.Count e = omega arith
number_some refusal.Table e = omega arith
number_some refusal.Record e = omega arith

pub passed_on : {A : Type 0} {k : Refusal} {r : Result A Refusal} → IsErrAnd r (λ e. e ≡ k) → r ≡ Err k
passed_on {r = r} h = let w = err_from_is_err_and r h in w.1 ∙ ap Err w.2

-- ---- in the workspace that the seeds need: the seeds are put there, merged, and the form is chosen

module _ (start end : ℕ) (rows seeds : List ℕ) (n : ℕ) (w : List ℕ) (t : Tested start end rows seeds n w) where
  divided : Divided start end rows (ends_of rows seeds) (length w)
  divided = early_divided start end rows seeds (length w) t.0

  pub coverage : (start < end) × (end - start ≤ 4294967295)
  coverage = (divided.ordered, divided.spans)

  pub seedable : Seeded start rows seeds n w
  seedable = record {
    covered = divided.covered;
    fits = early-given start end rows seeds (length w) t.0;
    number = t.1;
    room = omega (arith, divided.room, t.1, divided.any_seeds);
  }

  pub seeded : (span : ℕ) → span ≡ end - start → (w' : List ℕ) → Placed start rows seeds n w w' → Mergeable (positions_of start rows) (ends_of rows seeds) span n w'
  seeded span s w' p = mergeable divided s t.1 (omega (arith, divided.room, p.len)) p.stats

-- the form is chosen from what merging left in the workspace w, and j is the number of the tests after it
pub record Chosen (start end : ℕ) (rows seeds : List ℕ) (words n span : ℕ) (w : List ℕ) (d : Decision) (limit : ℕ) (out : List ℕ) (j : ℕ) : Type 0 where
  pub early : early_number start end rows seeds words ≡ 0
  pub spans : span ≡ end - start
  pub few : n < 65536
  pub room : n * 8 + 8 ≤ length w
  pub decided : Decided (positions_of start rows) (ends_of rows seeds) span n w d
  pub late : j ≡ late_number d.form.bytes limit (length out)

pub chosen : {start end : ℕ} {rows seeds : List ℕ} {n span : ℕ} {w w' w'' : List ℕ} {d : Decision} {limit : ℕ} {out : List ℕ} {j : ℕ}
    → Tested start end rows seeds n w → span ≡ end - start → Placed start rows seeds n w w' → length w'' ≡ length w'
    → ((xs ends : List ℕ) → Mergeable xs ends span n w' → Decided xs ends span n w'' d) → j ≡ late_number d.form.bytes limit (length out)
    → Chosen start end rows seeds (length w) n span w'' d limit out j
chosen {start} {end} {rows} {seeds} {n} {span} {w} {w'} t s p same decides late =
    let m = seeded start end rows seeds n w t span s w' p in
    record { early = t.0; spans = s; few = m.most; room = omega (arith, m.room, m.some, same); decided = decides _ _ m; late = late }

module _ {start end : ℕ} {rows seeds : List ℕ} {words n span : ℕ} {w : List ℕ} {d : Decision} {limit : ℕ} {out : List ℕ} {j : ℕ} (c : Chosen start end rows seeds words n span w d limit out j) where
  number : j ≡ late_number (planned_form start end rows seeds).bytes limit (length out)
  number = decided_late start end rows seeds c.spans c.decided j limit (length out) c.late

  -- acceptance
  module _ (none : j ≡ 0) where
    met : late_number d.form.bytes limit (length out) ≡ 0
    met = sym c.late ∙ none

    pub body_writable : Writable n w start rows span d.form d.sum (length out)
    body_writable = writable (early_divided _ _ _ _ _ c.early) limit (length out) c.spans c.few c.room c.decided met

    pub body_small : (d.form.bytes ≤ 65535) × (d.sum.segments ≤ 65535) × (d.offers ≤ 4294967295)
    body_small = ((late_zero d.form.bytes limit (length out) met).1, segments_few (early_divided _ _ _ _ _ c.early) c.decided, omega (arith, c.decided.most, c.few))

    pub body_planned : (b : Body) {left : List ℕ} {r : ℕ} → values_of b ≡ planned_values d.form d.sum.segments d.offers → Laid n w start rows span d.form out left r
        → (planned_of (Ok b) ≡ plan_of start end rows seeds limit words (length out)) × (left ≡ plan_out start end rows seeds limit words out)
    unfolding planned_of
    body_planned b a l = (
      ap accepted a ∙ decided_values start end rows seeds c.spans c.decided ∙ made_answer start end rows seeds limit words c.early out j number none,
      decided_body start end rows seeds c.spans c.decided (roomy (early_divided _ _ _ _ _ c.early) limit (length out) c.spans c.decided met).0 l ∙ made_out start end rows seeds limit words c.early out j number none,
    )

-- 6 and 7
module _ {start end : ℕ} {rows seeds : List ℕ} {words n span : ℕ} {w : List ℕ} {d : Decision} {limit : ℕ} {out : List ℕ} (k : Refusal) (c : Chosen start end rows seeds words n span w d limit out (number_of k)) where
  pub late-refused : planned_of (Err k) ≡ plan_of start end rows seeds limit words (length out)
  unfolding planned_of
  late-refused = late_answer start end rows seeds limit words c.early out _ (number c) (number_some k)

  pub late_kept : out ≡ plan_out start end rows seeds limit words out
  late_kept = late_out start end rows seeds limit words c.early out _ (number c) (number_some k)

-- ---- the public calls: the words that the seeds need are lent, and zeroed when they are back

module _ {start end : ℕ} {rows seeds : List ℕ} {words : ℕ} where
  -- 1 to 5
  module _ (k : Refusal) (j : Judged start end rows seeds words (Err k)) (limit : ℕ) (out work : List ℕ) where
    pub early-refused : planned_of (Err k) ≡ plan_of start end rows seeds limit words (length out)
    unfolding planned_of
    early-refused = early_answer start end rows seeds limit words _ out work j.number (number_some k)

    pub early_kept : out ≡ plan_out start end rows seeds limit words out
    early_kept = early_out start end rows seeds limit words _ out work j.number (number_some k)

    pub early_left : words ≡ length work → work ≡ plan_work start end rows seeds work
    early_left e = early_work start end rows seeds limit words _ out work j.number (number_some k) e

  pub seeds_few : {n : ℕ} → Judged start end rows seeds words (Ok n) → n ≤ 65535
  seeds_few j = omega (arith, j.count _ refl, (early_divided start end rows seeds words (sym j.number)).few_seeds)

-- 24 words of the workspace for each of the n seeds
pub record Lent (start end : ℕ) (rows seeds work : List ℕ) (n : ℕ) : Type 0 where
  pub early : early_number start end rows seeds (length work) ≡ 0
  pub count : n ≡ length (ends_of rows seeds)

pub lent : {start end : ℕ} {rows seeds work : List ℕ} {n : ℕ} → Judged start end rows seeds (length work) (Ok n) → Lent start end rows seeds work n
lent j = record { early = sym j.number; count = j.count _ refl }

module _ {start end : ℕ} {rows seeds work : List ℕ} {n : ℕ} (k : Lent start end rows seeds work n) where
  pub lent_inside : n * 24 ≤ length work
  lent_inside = omega (arith, k.count, (early_divided start end rows seeds (length work) k.early).room)

  pub lent_size : length (take (n * 24) work) ≡ n * 24
  lent_size = length-take-le (n * 24) work lent_inside

  pub lent_tested : Tested start end rows seeds n (take (n * 24) work)
  lent_tested = (cut_early start end rows seeds (length work) k.early (length (take (n * 24) work)) (omega (arith, lent_size, k.count)), k.count)

  module _ (back : List ℕ) (same : length back ≡ length (take (n * 24) work)) where
    pub back_room : (rest : List ℕ) → n * 24 ≤ length (back ++ rest)
    back_room rest = rw (length-append back rest) (omega (arith, same, lent_size))

    pub back_planned : (limit : ℕ) (out : List ℕ) {answer : Answer} {left zeroed : List ℕ}
        → answer ≡ plan_of start end rows seeds limit (length (take (n * 24) work)) (length out) → left ≡ plan_out start end rows seeds limit (length (take (n * 24) work)) out
        → zeroed ≡ over (replicate (n * 24) 0) (back ++ drop (n * 24) work)
        → (answer ≡ plan_of start end rows seeds limit (length work) (length out))
        × ((left ≡ plan_out start end rows seeds limit (length work) out) × (zeroed ≡ plan_work start end rows seeds work))
    back_planned limit out a l z =
        let zeros : List ℕ = replicate (n * 24) 0 in (
          a ∙ cut_answer start end rows seeds (length work) k.early _ lent_tested.0 limit out,
          (
            l ∙ cut_out start end rows seeds (length work) k.early _ lent_tested.0 limit out,
            z ∙ over_back zeros back work (n * 24) (length-replicate (n * 24) 0) (same ∙ lent_size) ∙ ap (λ (i : ℕ). over (replicate (i * 24) 0) work) k.count ∙ cleared start end rows seeds limit (length work) work refl k.early,
          ),
        )
