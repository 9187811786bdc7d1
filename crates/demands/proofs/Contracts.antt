-- Demand 1: what `One` says of a call is the call's contract. `Learnt` is what the check reads from a function's `ensures`, and so what a caller learns:
-- of the arguments, the result, and what is left of each argument. A reference holds what it refers to, which `now` reads; what is left of a `&`
-- is what was passed. Of `gather::add_row` and `gather::add_page`, whose module is their crate's own, `Adds` there says that it is `Said`.
-- Assumes nothing.
use mathlib.Core.List.{List, []}
use Prim.Native.Nat.{ℕ}
use Rattle.std.specs.Prelude.{Bool, Option, Result}
use Rattle.model.specs.declared.refusal.Refusal.{Refusal}
use contract.Lifetimes.{Lfts}
use denote.Ref.{Bor, MutBor}
use Rattle.rowset.proofs.validate.Reads as validate
use Rattle.rowset.proofs.rank.Reads as rank
use Rattle.rowset.proofs.select.Reads as select
use Rattle.rowset.proofs.segment.Reads as segment
use Rattle.rowset.proofs.ranks.Reads as ranks
use Rattle.rowset.proofs.walk.Reads as walk
use Rattle.gather_core.specs.declared.Gatherer.{Gatherer}
use Rattle.gather.proofs.gather_row.Reads as gather-row
use Rattle.gather.proofs.gather_page.Reads as gather-page
use Rattle.gather.proofs.Promised.{of_row, of_page, Said}
use Rattle.directory.specs.declared.Segment.{Segment}
use Rattle.tables.proofs.segments.Reads as segments
use Rattle.plan.specs.declared.Body.{Body}
use Rattle.plan.proofs.plan_rows.Reads as plan-rows
use Rattle.plan.proofs.plan_ordinals.Reads as plan-ordinals
use Rattle.deletion.specs.declared.Coded.{Coded}
use Rattle.deletion.proofs.check_deletions.Reads as check-deletions
use Rattle.deletion.proofs.contains.Reads as contains
use Rattle.deletion.proofs.walk_deletions.Reads as walk-deletions
use Rattle.deletion.proofs.plan_deletions.Reads as plan-deletions
use Rattle.demands.proofs.One.{
  ValidateSays,
  RankSays,
  SelectSays,
  SegmentSays,
  RanksSays,
  WalkSays,
  SegmentsSays,
  GatherRowSays,
  GatherPageSays,
  AddRowSays,
  AddPageSays,
  PlanSays,
  CheckSays,
  ContainsSays,
  WalkDeletionsSays,
  PlanDeletionsSays,
}

-- a slice that is lent to be read, and one that is lent to be changed
abbrev Slice : Type 0
Slice = Bor (List ℕ)

abbrev MutSlice : Type 0
MutSlice = MutBor (List ℕ)

module _ (tag span : ℕ) (body : Slice) where
  pub validate_says : (κs : Lfts 1) (r : Result ℕ Refusal) → validate.Learnt κs (tag, (span, (body, tt))) r (tag, (span, (body, tt))) → ValidateSays tag span body.now r
  validate_says κs r l = l

  pub rank_says : (κs : Lfts 1) (position : ℕ) (r : Result (Option ℕ) Refusal) → rank.Learnt κs (tag, (span, (body, (position, tt)))) r (tag, (span, (body, (position, tt)))) → RankSays tag span body.now position r
  rank_says κs position r l = l

  pub select_says : (κs : Lfts 1) (ordinal : ℕ) (r : Result (Option ℕ) Refusal) → select.Learnt κs (tag, (span, (body, (ordinal, tt)))) r (tag, (span, (body, (ordinal, tt)))) → SelectSays tag span body.now ordinal r
  select_says κs ordinal r l = l

  pub segment_says : (κs : Lfts 1) (i : ℕ) (r : Result (Option Segment) Refusal) → segment.Learnt κs (tag, (span, (body, (i, tt)))) r (tag, (span, (body, (i, tt)))) → SegmentSays tag span body.now i r
  segment_says κs i r l = l

  pub ranks_says : (κs : Lfts 3) (positions : Slice) (old left : MutSlice) (r : Result ℕ Refusal)
      → ranks.Learnt κs (tag, (span, (body, (positions, (old, tt))))) r (tag, (span, (body, (positions, (left, tt))))) → RanksSays tag span body.now positions.now old.now (r, left.now)
  ranks_says κs positions old left r l = l

  pub walk_says : (κs : Lfts 2) (from : ℕ) (old left : MutSlice) (r : Result ℕ Refusal)
      → walk.Learnt κs (tag, (span, (body, (from, (old, tt))))) r (tag, (span, (body, (from, (left, tt))))) → WalkSays tag span body.now from old.now (r, left.now)
  walk_says κs from old left r l = l

  pub segments_says : (κs : Lfts 2) (old left : MutBor (List Segment)) (r : Result ℕ Refusal)
      → segments.Learnt κs (tag, (span, (body, (old, tt)))) r (tag, (span, (body, (left, tt)))) → SegmentsSays tag span body.now old.now (r, left.now)
  segments_says κs old left r l = l

module _ (g : Gatherer) (table left : MutSlice) (r : Result Gatherer Refusal) where
  pub gather_row_says : (κs : Lfts 1) (row : ℕ) → gather-row.Learnt κs (g, (table, (row, tt))) r (g, (left, (row, tt))) → GatherRowSays g table.now row (r, left.now)
  gather_row_says κs row l = l

  pub gather_page_says : (κs : Lfts 2) (rows : Slice) → gather-page.Learnt κs (g, (table, (rows, tt))) r (g, (left, (rows, tt))) → GatherPageSays g table.now rows.now (r, left.now)
  gather_page_says κs rows l = l

-- of a record that is lent to be changed too
module _ (g g' : Gatherer) (table left : List ℕ) (a : Result (Unit {0}) Refusal) where
  pub add_row_says : (row : ℕ) → Said (of_row g table row) a g' left → AddRowSays g table row (a, (g', left))
  add_row_says row l = l

  pub add_page_says : (rows : List ℕ) → Said (of_page g table rows) a g' left → AddPageSays g table rows (a, (g', left))
  add_page_says rows l = l

module _ (limit : ℕ) (work out work' out' : MutSlice) where
  pub plan_rows_says : (κs : Lfts 4) (start end : ℕ) (rows seeds : Slice) (r : Result Body Refusal)
      → plan-rows.Learnt κs (start, (end, (rows, (seeds, (limit, (work, (out, tt))))))) r (start, (end, (rows, (seeds, (limit, (work', (out', tt)))))))
      → PlanSays start end rows.now seeds.now limit work.now out.now (r, (out'.now, work'.now))
  plan_rows_says κs start end rows seeds r l = l

  pub plan_ordinals_says : (κs : Lfts 3) (count : ℕ) (ordinals : Slice) (r : Result Body Refusal)
      → plan-ordinals.Learnt κs (count, (ordinals, (limit, (work, (out, tt))))) r (count, (ordinals, (limit, (work', (out', tt)))))
      → PlanSays 0 count ordinals.now [] limit work.now out.now (r, (out'.now, work'.now))
  plan_ordinals_says κs count ordinals r l = l

  pub plan_deletions_says : (κs : Lfts 3) (rows : ℕ) (ordinals : Slice) (r : Result (Option Body) Refusal)
      → plan-deletions.Learnt κs (rows, (limit, (ordinals, (work, (out, tt))))) r (rows, (limit, (ordinals, (work', (out', tt)))))
      → PlanDeletionsSays rows limit ordinals.now work.now out.now (r, (out'.now, work'.now))
  plan_deletions_says κs rows ordinals r l = l

module _ (rows limit : ℕ) (s : Option Coded) (body : Slice) where
  pub check_says : (κs : Lfts 1) (r : Result ℕ Refusal) → check-deletions.Learnt κs (rows, (limit, (s, (body, tt)))) r (rows, (limit, (s, (body, tt)))) → CheckSays rows limit s body.now r
  check_says κs r l = l

  pub contains_says : (κs : Lfts 1) (ordinal : ℕ) (r : Result Bool Refusal)
      → contains.Learnt κs (rows, (limit, (s, (body, (ordinal, tt))))) r (rows, (limit, (s, (body, (ordinal, tt))))) → ContainsSays rows limit s body.now ordinal r
  contains_says κs ordinal r l = l

  pub walk_deletions_says : (κs : Lfts 2) (from : ℕ) (old left : MutSlice) (r : Result ℕ Refusal)
      → walk-deletions.Learnt κs (rows, (limit, (s, (body, (from, (old, tt)))))) r (rows, (limit, (s, (body, (from, (left, tt)))))) → WalkDeletionsSays rows limit s body.now from old.now (r, left.now)
  walk_deletions_says κs from old left r l = l
