-- Demand 1: the contract of each public call leaves nothing open. What a call says is written here as its `ensures` has it: what is answered, and
-- the final contents of every lent place, for good input and refused input alike. `Contracts` has that these are the calls' contracts.
-- Assumes nothing.
use mathlib.Core.Path.{◌≡◌, sym, ap₂, ◌∙◌}
use mathlib.Core.List.{List, []}
use Prim.Native.Nat.{ℕ}
use Rattle.std.specs.Prelude.{Bool, Option, Result}
use Rattle.model.specs.declared.refusal.Refusal.{Refusal}
use lib.ListN.{length}
use Rattle.model.specs.Answers.{Answer}
use Rattle.directory.specs.declared.Segment.{Segment}
use Rattle.rowset.specs.Calls.{checked_of, ranked_of, selected_of, filled_of, entry_answer, validate_of, rank_answer, select_answer, ranks_answer, ranks_left, walk_answer, walk_left, segment_answer}
use Rattle.rowset.proofs.Same.{checked_same, ranked_same, selected_same, filled_same, entry-same}
use Rattle.tables.specs.Tables.{segments_answer, segments_left}
use Rattle.gather_core.specs.declared.Gatherer.{Gatherer}
use Rattle.gather_core.specs.Gather.{values_of, row_answer, row_table, page_answer, page_table}
use Rattle.model.specs.Refusals.{answer_of}
use Rattle.gather.specs.Records.{added_answer, row_record, page_record}
use Rattle.gather.proofs.Answers.{answers_same}
use Rattle.gather.proofs.Promised.{added-same}
use Rattle.planning.specs.Planning.{plan_of, plan_out, plan_work}
use Rattle.plan.specs.Plans.{planned_of}
use Rattle.plan.specs.declared.Body.{Body}
use Rattle.plan.proofs.Same.{planned_same}
use Rattle.deletion.specs.Reading as section
use Rattle.deletion.specs.Striking.{struck_of, strike_of, strike_out, strike_work}
use Rattle.deletion.specs.declared.Coded.{Coded}
use Rattle.deletion.proofs.Same.{counted_same, contained_same, struck_same}
use Rattle.demands.specs.Demands.{Once}

-- two that equal a third
alike : {A : Type 0} {a b c : A} → a ≡ c → b ≡ c → a ≡ b
alike p q = p ∙ sym q

pair : {A B : Type 0} {a b : A × B} → a.0 ≡ b.0 → a.1 ≡ b.1 → a ≡ b
pair p q = ap₂ (λ x y. (x, y)) p q

-- ---- reading a body

module _ (tag span : ℕ) (body : List ℕ) where
  abbrev pub ValidateSays : Result ℕ Refusal → Type 0
  ValidateSays r = checked_of r ≡ validate_of tag span body

  pub validate_once : Once ValidateSays
  validate_once a b p q = checked_same a b (alike p q)

  abbrev pub RankSays : ℕ → Result (Option ℕ) Refusal → Type 0
  RankSays position r = ranked_of r ≡ rank_answer tag span body position

  pub rank_once : (position : ℕ) → Once (RankSays position)
  rank_once position a b p q = ranked_same a b (alike p q)

  abbrev pub SelectSays : ℕ → Result (Option ℕ) Refusal → Type 0
  SelectSays ordinal r = selected_of r ≡ select_answer tag span body ordinal

  pub select_once : (ordinal : ℕ) → Once (SelectSays ordinal)
  select_once ordinal a b p q = selected_same a b (alike p q)

  abbrev pub SegmentSays : ℕ → Result (Option Segment) Refusal → Type 0
  SegmentSays i r = entry_answer r ≡ segment_answer tag span body i

  pub segment_once : (i : ℕ) → Once (SegmentSays i)
  segment_once i a b p q = entry-same a b (alike p q)

  abbrev pub RanksSays : List ℕ → List ℕ → Result ℕ Refusal × List ℕ → Type 0
  RanksSays positions old r = (filled_of r.0 ≡ ranks_answer tag span body positions (length old)) × (r.1 ≡ ranks_left tag span body positions old)

  pub ranks_once : (positions old : List ℕ) → Once (RanksSays positions old)
  ranks_once positions old a b p q = pair (filled_same a.0 b.0 (alike p.0 q.0)) (alike p.1 q.1)

  abbrev pub WalkSays : ℕ → List ℕ → Result ℕ Refusal × List ℕ → Type 0
  WalkSays from old r = (filled_of r.0 ≡ walk_answer tag span body from (length old)) × (r.1 ≡ walk_left tag span body from old)

  pub walk_once : (from : ℕ) (old : List ℕ) → Once (WalkSays from old)
  walk_once from old a b p q = pair (filled_same a.0 b.0 (alike p.0 q.0)) (alike p.1 q.1)

  abbrev pub SegmentsSays : List Segment → Result ℕ Refusal × List Segment → Type 0
  SegmentsSays old r = (filled_of r.0 ≡ segments_answer tag span body (length old)) × (r.1 ≡ segments_left tag span body old)

  pub segments_once : (old : List Segment) → Once (SegmentsSays old)
  segments_once old a b p q = pair (filled_same a.0 b.0 (alike p.0 q.0)) (alike p.1 q.1)

-- ---- gathering: by value the record is in the answer, by reference it is what is left of the record that was lent

module _ (g : Gatherer) (table : List ℕ) where
  abbrev pub GatherRowSays : ℕ → Result Gatherer Refusal × List ℕ → Type 0
  GatherRowSays row r = (answer_of values_of r.0 ≡ row_answer g (length table) row) × (r.1 ≡ row_table g table row)

  pub gather_row_once : (row : ℕ) → Once (GatherRowSays row)
  gather_row_once row a b p q = pair (answers_same a.0 b.0 (alike p.0 q.0)) (alike p.1 q.1)

  abbrev pub GatherPageSays : List ℕ → Result Gatherer Refusal × List ℕ → Type 0
  GatherPageSays rows r = (answer_of values_of r.0 ≡ page_answer g (length table) rows) × (r.1 ≡ page_table g table rows)

  pub gather_page_once : (rows : List ℕ) → Once (GatherPageSays rows)
  gather_page_once rows a b p q = pair (answers_same a.0 b.0 (alike p.0 q.0)) (alike p.1 q.1)

  abbrev Adds : Answer → Gatherer → List ℕ → Result (Unit {0}) Refusal × (Gatherer × List ℕ) → Type 0
  Adds w record' table' r = (added_answer r.0 r.1.0 ≡ w) × ((r.1.0 ≡ record') × (r.1.1 ≡ table'))

  adds_once : (w : Answer) (record' : Gatherer) (table' : List ℕ) → Once (Adds w record' table')
  adds_once w record' table' a b p q = pair (added-same a.0 b.0 a.1.0 b.1.0 (alike p.0 q.0)) (pair (alike p.1.0 q.1.0) (alike p.1.1 q.1.1))

  abbrev pub AddRowSays : ℕ → Result (Unit {0}) Refusal × (Gatherer × List ℕ) → Type 0
  AddRowSays row = Adds (row_answer g (length table) row) (row_record g (length table) row) (row_table g table row)

  pub add_row_once : (row : ℕ) → Once (AddRowSays row)
  add_row_once row = adds_once _ _ _

  abbrev pub AddPageSays : List ℕ → Result (Unit {0}) Refusal × (Gatherer × List ℕ) → Type 0
  AddPageSays rows = Adds (page_answer g (length table) rows) (page_record g (length table) rows) (page_table g table rows)

  pub add_page_once : (rows : List ℕ) → Once (AddPageSays rows)
  add_page_once rows = adds_once _ _ _

-- ---- planning: the output and the workspace are left

abbrev pub PlanSays : ℕ → ℕ → List ℕ → List ℕ → ℕ → List ℕ → List ℕ → Result Body Refusal × (List ℕ × List ℕ) → Type 0
PlanSays start end rows seeds limit work out r =
    (planned_of r.0 ≡ plan_of start end rows seeds limit (length work) (length out))
    × ((r.1.0 ≡ plan_out start end rows seeds limit (length work) out) × (r.1.1 ≡ plan_work start end rows seeds work))

pub plan_rows_once : (start end : ℕ) (rows seeds : List ℕ) (limit : ℕ) (work out : List ℕ) → Once (PlanSays start end rows seeds limit work out)
plan_rows_once start end rows seeds limit work out a b p q =
    pair (planned_same a.0 b.0 (alike p.0 q.0)) (pair (alike p.1.0 q.1.0) (alike p.1.1 q.1.1))

-- ordinals are rows of the coverage from 0 to the row count, without seeds
pub plan_ordinals_once : (count : ℕ) (ordinals : List ℕ) (limit : ℕ) (work out : List ℕ) → Once (PlanSays 0 count ordinals [] limit work out)
plan_ordinals_once count ordinals limit work out = plan_rows_once 0 count ordinals [] limit work out

-- ---- the deletion view

module _ (rows limit : ℕ) where
  module _ (s : Option Coded) (body : List ℕ) where
    abbrev pub CheckSays : Result ℕ Refusal → Type 0
    CheckSays r = section.counted_of r ≡ section.check_answer rows limit s body

    pub check_once : Once CheckSays
    check_once a b p q = counted_same a b (alike p q)

    abbrev pub ContainsSays : ℕ → Result Bool Refusal → Type 0
    ContainsSays ordinal r = section.contained_of r ≡ section.contains_answer rows limit s body ordinal

    pub contains_once : (ordinal : ℕ) → Once (ContainsSays ordinal)
    contains_once ordinal a b p q = contained_same a b (alike p q)

    abbrev pub WalkDeletionsSays : ℕ → List ℕ → Result ℕ Refusal × List ℕ → Type 0
    WalkDeletionsSays from old r = (filled_of r.0 ≡ section.walk_answer rows limit s body from (length old)) × (r.1 ≡ section.walk_left rows limit s body from old)

    pub walk_deletions_once : (from : ℕ) (old : List ℕ) → Once (WalkDeletionsSays from old)
    walk_deletions_once from old a b p q = pair (filled_same a.0 b.0 (alike p.0 q.0)) (alike p.1 q.1)

  abbrev pub PlanDeletionsSays : List ℕ → List ℕ → List ℕ → Result (Option Body) Refusal × (List ℕ × List ℕ) → Type 0
  PlanDeletionsSays ordinals work out r =
      (struck_of r.0 ≡ strike_of rows limit ordinals (length work) (length out))
      × ((r.1.0 ≡ strike_out rows limit ordinals (length work) out) × (r.1.1 ≡ strike_work rows limit ordinals work))

  pub plan_deletions_once : (ordinals work out : List ℕ) → Once (PlanDeletionsSays ordinals work out)
  plan_deletions_once ordinals work out a b p q =
      pair (struck_same a.0 b.0 (alike p.0 q.0)) (pair (alike p.1.0 q.1.0) (alike p.1.1 q.1.1))
