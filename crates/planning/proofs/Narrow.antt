-- Every segment that merging leaves has a span of 16 bits: each seed has, and only pairs that have are joined. So the segments of a
-- plan are its rows in order, none is empty, and each is narrow.
-- Assumes nothing.
use mathlib.Core.Path.{◌≡◌, refl, sym, ap, ◌∙◌}
use mathlib.Core.Bool.{Bool, true}
use mathlib.Core.Logic.{⊎_elim}
use mathlib.Core.List.{List, [], ◌∷◌, ◌++◌, append-nil, append_assoc}
use Prim.Native.Nat.{ℕ, zero, suc, ◌+◌, ◌-◌, ◌<◌, ◌≤◌}
use native.Mathlib.Nat.{le_refl}
use native.Mathlib.Omega.{arith}
use lib.ListN.{length, get_or}
use Rattle.model.specs.Tests.{flat}
use Rattle.model.specs.Lists.{Rising, none, more, positions_of}
use Rattle.model.proofs.Rising.{rising_high, rising_wider}
use Rattle.stats.specs.Statistics.{stats_of, span_of}
use Rattle.stats.proofs.Joining.{stats_append}
use Rattle.model.proofs.Positions.{length_positions, get_or_positions}
use Rattle.gather_core.specs.Seeds.{start_of, seeds_fit}
use Rattle.single.specs.Layout.{first_of, extent_of}
use Rattle.merge.specs.Rule.{without, cuts_from, best, after_joins, merged}
use Rattle.links.specs.Pairs.{rows_admitted, rows_saving}
use Rattle.merge.proofs.Cuts.{Meet, meet_cases, meet_order, meet_three, without_hit, without_miss}
use Rattle.merge.proofs.Joins.{by_choice, join_step, join_end, best_meets}
use Rattle.links.proofs.Segments.{admits_short}
use Rattle.planning.specs.Segments.{part, between, cuts_left, pieces, segments_of}
use Rattle.planning.specs.Bodies.{segment_at}
use Rattle.planning.proofs.Dividing.{Divides, Divided, fit_divides, seed_near, part_length, part_at, start_inside, between_some, between_cut, between_whole, ahead, ahead_none, ahead_cut}

-- ---- a property of the cuts of every segment

-- after x these cuts rise up to n, with Q of each and the next
pub data Through (Q : ℕ → ℕ → Type 0) (n : ℕ) : ℕ → List ℕ → Type 0 where
  last : {x : ℕ} → x ≡ n → Through Q n x []
  step : {x y : ℕ} {cs : List ℕ} → x < y → Q x y → Through Q n y cs → Through Q n x (y ∷ cs)

-- the cuts ds start with x
pub record From (Q : ℕ → ℕ → Type 0) (n x : ℕ) (ds : List ℕ) : Type 0 where
  pub rest : List ℕ
  pub cuts : ds ≡ x ∷ rest
  pub through : Through Q n x rest

module _ {Q : ℕ → ℕ → Type 0} {n : ℕ} where
  through_rising : {x : ℕ} {cs : List ℕ} → Through Q n x cs → Rising x (suc n) (x ∷ cs)
  through_rising {x} (last e) = more {a = x} {b = suc n} {x = x} (le_refl x) (omega arith) none
  through_rising {x} (step p q s) =
      let r = through_rising s in
      more {a = x} {b = suc n} {x = x} (le_refl x) (omega (arith, rising_high r)) (rising_wider p (le_refl (suc n)) r)

  pub through_inside : {x : ℕ} {cs : List ℕ} → Through Q n x cs → x ≤ n
  through_inside s = omega (arith, rising_high (through_rising s))

  -- a join keeps it where the joined segment has it
  through_without : {x : ℕ} (cs : List ℕ) (l m r : ℕ) → Through Q n x cs → Meet (x ∷ cs) l m r → Q l r → Through Q n x (without m cs)
  through_without [] l m r s w g = absurd (omega (arith, meet_three w))
  through_without (y ∷ []) l m r s w g = absurd (omega (arith, meet_three w))
  through_without {x} (y ∷ z ∷ cs) l m r (step p q (step p' q' s)) w g =
      ⊎_elim
      (λ e. let g' : Q x z = rw (e.0, e.2) g in rw (without_hit m y (z ∷ cs) e.1) (step {x = x} {y = z} (omega arith) g' s))
      (λ w'.
      let ny : y ≡ m → ⊥ = λ h. omega (arith, meet_order (through_rising (step p' q' s)) w') in
      rw (without_miss m y (z ∷ cs) ny) (step p q (through_without (z ∷ cs) l m r (step p' q' s) w' g)))
      (meet_cases w)

  from_seeds : (i k : ℕ) → i + k ≡ n → ((j : ℕ) → j < n → Q j (suc j)) → From Q n i (cuts_from i k)
  unfolding cuts_from
  from_seeds i zero e q = record { rest = []; cuts = refl; through = last {x = i} (omega arith) }
  from_seeds i (suc k) e q =
      let o = from_seeds (suc i) k (omega arith) q in
      record { rest = cuts_from (suc i) k; cuts = refl; through = rw o.cuts (step {x = i} {y = suc i} (omega arith) (q i (omega arith)) o.through) }

  module _ (adm : ℕ → ℕ → ℕ → Bool) (sav : ℕ → ℕ → ℕ → ℕ) (grow : (l m r : ℕ) → l < m → m < r → r ≤ n → adm l m r ≡ true → Q l r) where
    from-joins : {x : ℕ} (k : ℕ) (cs : List ℕ) → Through Q n x cs → From Q n x (after_joins adm sav k (x ∷ cs))
    unfolding after_joins
    from-joins zero cs s = record { rest = cs; cuts = refl; through = s }
    from-joins {x} (suc k) cs s =
        let ri = through_rising s in
        by_choice (best adm sav (x ∷ cs))
        (λ e. rw (join_end adm sav (suc k) (x ∷ cs) e) (record { rest = cs; cuts = refl; through = s }))
        (λ l m r e.
        let b = best_meets adm sav (x ∷ cs) l m r ri e in
        let o = meet_order ri b.meets in
        let nx : x ≡ m → ⊥ = λ h. omega (arith, o.0, o.1) in
        rw (join_step adm sav k (x ∷ cs) l m r e, without_miss m x cs nx) (from-joins k (without m cs) (through_without cs l m r s b.meets (grow l m r o.1 o.2 (omega (arith, o.3)) b.ok))))

    -- what each seed has and each admitted pair has joined, each segment has
    pub from-merged : ((j : ℕ) → j < n → Q j (suc j)) → From Q n 0 (merged adm sav (cuts_from 0 n))
    unfolding merged
    from-merged q =
        let o = from_seeds 0 n (omega arith) q in
        rw o.cuts (from-joins (length (0 ∷ o.rest)) o.rest o.through)

-- ---- the span

abbrev pub Slim : List ℕ → List ℕ → ℕ → ℕ → Type 0
Slim xs ends l m = span_of (stats_of (between xs ends l m)) ≤ 65535

-- ends that divide rows into narrow seeds
pub record Narrow (xs ends : List ℕ) : Type 0 where
  pub divides : Divides (length xs) ends
  pub seeds : (i : ℕ) → i < length ends → Slim xs ends i (suc i)

pub cuts_narrow : (xs ends : List ℕ) → Narrow xs ends → From (Slim xs ends) (length ends) 0 (cuts_left xs ends)
unfolding cuts_left rows_admitted
cuts_narrow xs ends k =
    from-merged (rows_admitted (between xs ends)) (rows_saving (between xs ends))
    (λ l m r p q h e.
    let d = k.divides in
    rw (between_cut xs ends d l m r (omega arith) (omega arith) h, stats_append (between xs ends l m) (between xs ends m r) (between_some xs ends d l m p (omega arith)) (between_some xs ends d m r q h))
    (admits_short (stats_of (between xs ends l m)) (stats_of (between xs ends m r)) e))
    k.seeds

-- ---- seeds that pass test 4, counted from the start of the coverage

part_span : (xs : List ℕ) (a b : ℕ) → a < b → b ≤ length xs → span_of (stats_of (part xs a b)) ≡ get_or xs (b - 1) 0 - get_or xs a 0 + 1
unfolding stats_of
part_span xs a b h k =
    let n : length (part xs a b) ≡ b - a = part_length xs a b (omega arith) k in
    let z : a + 0 ≡ a = omega arith in
    let e : a + (b - a - 1) ≡ b - 1 = omega arith in
    rw (n, part_at xs a b 0 (omega arith), part_at xs a b (b - a - 1) (omega arith), z, e)

pub positions_narrow : (start : ℕ) (rows ends : List ℕ) → seeds_fit rows ends ≡ true → 1 ≤ length rows → Narrow (positions_of start rows) ends
unfolding between
positions_narrow start rows ends e h =
    let d : Divides (length (positions_of start rows)) ends = rw (length_positions start rows) (fit_divides rows ends e h) in
    record {
      divides = d;
      seeds = λ i l.
          let up = d.rise i (suc i) (omega arith) l in
          let top : start_of ends (suc i) ≤ length rows = rw (length_positions start rows) at (start_inside (positions_of start rows) ends d (suc i) l) in
          let near = seed_near rows ends e i l in
          rw (
            part_span (positions_of start rows) (start_of ends i) (start_of ends (suc i)) (omega arith) (start_inside (positions_of start rows) ends d (suc i) l),
            get_or_positions start rows (start_of ends (suc i) - 1) (omega arith),
            get_or_positions start rows (start_of ends i) (omega arith),
          ) (omega arith);
    }

pub divided_narrow : {start end words : ℕ} {rows ends : List ℕ} → Divided start end rows ends words → Narrow (positions_of start rows) ends
divided_narrow {start} {rows = rows} {ends = ends} d = positions_narrow start rows ends d.fit d.some

-- ---- segments of rows

-- the rows xs are these segments, each of one row or more and of a span of 16 bits
pub data Parts : List ℕ → List (List ℕ) → Type 0 where
  nothing : {xs : List ℕ} → xs ≡ [] → Parts xs []
  front : {xs seg rest : List ℕ} {segs : List (List ℕ)} → xs ≡ seg ++ rest → 1 ≤ length seg → span_of (stats_of seg) ≤ 65535 → Parts rest segs → Parts xs (seg ∷ segs)

flat_first : {A : Type 0} (g : ℕ → List A) (n : ℕ) → flat g (suc n) ≡ g 0 ++ flat (λ (i : ℕ). g (suc i)) n
unfolding flat
flat_first g zero = sym (append-nil (g 0))
flat_first g (suc n) = ap (λ ys. ys ++ g (suc n)) (flat_first g n) ∙ append_assoc (g 0) (flat (λ (i : ℕ). g (suc i)) n) (g (suc n))

pub parts_flat : {xs : List ℕ} {segs : List (List ℕ)} → Parts xs segs → flat (segment_at segs) (length segs) ≡ xs
unfolding flat segment_at
parts_flat (nothing z) = sym z
parts_flat {segs = seg ∷ segs} (front e some slim k) = flat_first (segment_at (seg ∷ segs)) (length segs) ∙ ap (λ (ys : List ℕ). seg ++ ys) (parts_flat k) ∙ sym e

-- one of the segments
pub record Part (seg : List ℕ) : Type 0 where
  pub some : 1 ≤ length seg
  pub narrow : span_of (stats_of seg) ≤ 65535
  pub short : extent_of seg ≤ 65535

part_of : (seg : List ℕ) → 1 ≤ length seg → span_of (stats_of seg) ≤ 65535 → Part seg
unfolding extent_of first_of stats_of
part_of seg some slim = record { some = some; narrow = slim; short = omega arith }

pub parts_each : {xs : List ℕ} {segs : List (List ℕ)} → Parts xs segs → (i : ℕ) → i < length segs → Part (segment_at segs i)
unfolding segment_at
parts_each (nothing z) i h = absurd (omega arith)
parts_each {segs = seg ∷ segs} (front e some slim k) zero h = part_of seg some slim
parts_each (front e some slim k) (suc i) h = parts_each k i (omega arith)

pub parts_some : {xs : List ℕ} {segs : List (List ℕ)} → Parts xs segs → 1 ≤ length xs → 1 ≤ length segs
parts_some (nothing z) h = absurd (omega (arith, ap length z))
parts_some (front e some slim k) h = omega arith

-- ---- the segments of the plan

module _ (xs ends : List ℕ) (k : Narrow xs ends) where
  parts_through : {x : ℕ} {cs : List ℕ} → Through (Slim xs ends) (length ends) x cs → Parts (ahead xs ends x) (pieces (between xs ends) (x ∷ cs))
  unfolding pieces
  parts_through {x} (last e) = nothing (ahead_none xs ends x e)
  parts_through {x} (step {y = y} p q s) =
      let h = through_inside s in
      front (ahead_cut xs ends k.divides x y p h) (between_some xs ends k.divides x y p h) q (parts_through s)

  pub plan_parts : Parts xs (segments_of xs ends)
  unfolding segments_of
  plan_parts =
      let o = cuts_narrow xs ends k in
      rw o.cuts (rw (between_whole xs ends k.divides) at (parts_through o.through))
