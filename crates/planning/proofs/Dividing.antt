-- Ends that pass test 4 divide the rows: the starts of the seeds rise from 0 to the row count, each seed has rows, and what lies
-- between cuts adds up. The windows pass it.
-- Assumes nothing.
use mathlib.Core.Path.{◌≡◌, refl, sym, ◌∙◌}
use mathlib.Core.Bool.{true}
use mathlib.Core.Logic.{⊎_elim}
use mathlib.Core.List.{List, [], ◌∷◌, ◌++◌}
use Prim.Native.Nat.{ℕ, zero, suc, ◌+◌, ◌-◌, ◌*◌, ◌<◌, ◌≤◌}
use native.Mathlib.Nat.{eq-or-lt_of_le, le_refl}
use native.Mathlib.Numerals.{add-one}
use native.Mathlib.Omega.{arith}
use lib.Dec.{eqb}
use lib.ListN.{length, get_or, drop, length-drop}
use lib.Seq.{length-take-le, take_all, take-add, drop-drop, get_or-take, get_or-drop}
use borrow.Author.Tests.{ltb-true, leb-true, eqb-true}
use Rattle.model.specs.Lists.{Rising, positions_of}
use Rattle.model.proofs.Rising.{rising_wider, rising_tests}
use Rattle.model.proofs.Tests.{both_left, both_right, all_at, pick_true, pick_false, either}
use Rattle.model.proofs.Writing.{over-take}
use Rattle.stats.specs.Rows.{Covered}
use Rattle.model.proofs.Positions.{positions_rising}
use Rattle.gather_core.specs.declared.Gatherer.{Gatherer}
use Rattle.gather_core.specs.Gather.{rises, up_at, added_all, added_all_to, Counted}
use Rattle.gather_core.specs.Seeds.{start_of, seed_at, seeds_fit, windows}
use Rattle.gather_core.proofs.Admitted.{passes}
use Rattle.gather_core.proofs.Seeds.{gathers_none, all_keeps, gathers_fit}
use Rattle.gather_core.proofs.Windows.{windows_singly}
use Rattle.planning.specs.Refusals.{coverage_fits, count_fits, rows_fit, given_fit, ends_of, room_fits, early_number}
use Rattle.planning.specs.Segments.{part, between}

-- ---- the starts

-- one seed or more, each of one row or more, and together all rows
pub record Divides (total : ℕ) (ends : List ℕ) : Type 0 where
  pub some : 1 ≤ length ends
  pub rise : (l m : ℕ) → l ≤ m → m ≤ length ends → start_of ends l + (m - l) ≤ start_of ends m
  pub full : start_of ends (length ends) ≡ total

-- what goes up at each step goes up over many
pub climbs : (s : ℕ → ℕ) (n : ℕ) → ((i : ℕ) → i < n → s i < s (suc i)) → (l m : ℕ) → l ≤ m → m ≤ n → s l + (m - l) ≤ s m
climbs s n up l zero h k = let e : l ≡ 0 = omega arith in rw e (omega arith)
climbs s n up l (suc m) h k =
    ⊎_elim
    (λ e. rw e (omega arith))
    (λ g. omega (arith, climbs s n up l m (omega arith) (omega arith), up m (omega arith)))
    (eq-or-lt_of_le h)

-- test 4, seed by seed
pub seed_fits : (rows ends : List ℕ) → seeds_fit rows ends ≡ true → (i : ℕ) → i < length ends → seed_at rows ends i ≡ true
unfolding seeds_fit
seed_fits rows ends e = all_at (seed_at rows ends) (length ends) (both_left _ _ e)

-- a seed has a row, and its last − first is at most 65,534
pub seed_some : (rows ends : List ℕ) → seeds_fit rows ends ≡ true → (i : ℕ) → i < length ends → start_of ends i < start_of ends (suc i)
unfolding seed_at start_of
seed_some rows ends e i h = ltb-true _ _ (both_left _ _ (seed_fits rows ends e i h))

pub seed_near : (rows ends : List ℕ) → seeds_fit rows ends ≡ true → (i : ℕ) → i < length ends → get_or rows (start_of ends (suc i) - 1) 0 - get_or rows (start_of ends i) 0 ≤ 65534
unfolding seed_at start_of
seed_near rows ends e i h = leb-true _ _ (both_right _ _ (seed_fits rows ends e i h))

last_start_lem : (rows ends : List ℕ) → seeds_fit rows ends ≡ true → 1 ≤ length rows → (1 ≤ length ends) × (start_of ends (length ends) ≡ length rows)
unfolding seeds_fit start_of
last_start_lem rows [] e h = absurd (omega (arith, eqb-true 0 (length rows) (both_right _ _ e)))
last_start_lem rows (x ∷ xs) e h =
    let q : length (x ∷ xs) - 1 ≡ length xs = omega arith in
    (omega arith, rw (← q) (eqb-true (get_or (x ∷ xs) (length (x ∷ xs) - 1) 0) (length rows) (both_right _ _ e)))

pub fit_divides : (rows ends : List ℕ) → seeds_fit rows ends ≡ true → 1 ≤ length rows → Divides (length rows) ends
fit_divides rows ends e h =
    let o = last_start_lem rows ends e h in
    record { some = o.0; rise = climbs (start_of ends) (length ends) (seed_some rows ends e); full = o.1 }

-- no more seeds than rows
pub divides_few : (total : ℕ) (ends : List ℕ) → Divides total ends → length ends ≤ total
unfolding start_of
divides_few total ends d = omega (arith, d.rise 0 (length ends) (omega arith) (omega arith), d.full)

-- ---- rows from one index to another

pub part_length : (xs : List ℕ) (a b : ℕ) → a ≤ b → b ≤ length xs → length (part xs a b) ≡ b - a
unfolding part
part_length xs a b h k = length-take-le (b - a) (drop a xs) (rw length-drop (omega arith))

pub part_cut : (xs : List ℕ) (a b c : ℕ) → a ≤ b → b ≤ c → part xs a c ≡ part xs a b ++ part xs b c
unfolding part
part_cut xs a b c h k =
    let e : c - a ≡ b - a + (c - b) = omega arith in
    let f : a + (b - a) ≡ b = omega arith in
    rw (e, take-add (b - a) (c - b) (drop a xs), drop-drop (b - a) a xs, f)

pub part_at : (xs : List ℕ) (a b i : ℕ) → i < b - a → get_or (part xs a b) i 0 ≡ get_or xs (a + i) 0
unfolding part
part_at xs a b i h = get_or-take (b - a) (drop a xs) i 0 h ∙ get_or-drop a xs i 0

pub part_none : (xs : List ℕ) (a : ℕ) → part xs a a ≡ []
unfolding part
part_none xs a = let e : a - a ≡ 0 = omega arith in rw e

-- ---- rows between cuts

module _ (xs ends : List ℕ) (d : Divides (length xs) ends) where
  pub start_inside : (l : ℕ) → l ≤ length ends → start_of ends l ≤ length xs
  start_inside l h = omega (arith, d.rise l (length ends) h (omega arith), d.full)

  pub between_some : (l m : ℕ) → l < m → m ≤ length ends → 1 ≤ length (between xs ends l m)
  unfolding between
  between_some l m h k =
      let up = d.rise l m (omega arith) k in
      rw (part_length xs (start_of ends l) (start_of ends m) (omega arith) (start_inside m k)) (omega arith)

  pub between_cut : (l m r : ℕ) → l ≤ m → m ≤ r → r ≤ length ends → between xs ends l r ≡ between xs ends l m ++ between xs ends m r
  unfolding between
  between_cut l m r h k b =
      part_cut xs (start_of ends l) (start_of ends m) (start_of ends r) (omega (arith, d.rise l m h (omega arith))) (omega (arith, d.rise m r k b))

  pub between_whole : between xs ends 0 (length ends) ≡ xs
  unfolding between part start_of
  between_whole = rw d.full (take_all (length xs - 0) xs (omega arith))

-- the rows from the cut x on
abbrev pub ahead : List ℕ → List ℕ → ℕ → List ℕ
ahead xs ends x = between xs ends x (length ends)

pub ahead_none : (xs ends : List ℕ) (x : ℕ) → x ≡ length ends → ahead xs ends x ≡ []
unfolding between
ahead_none xs ends x e = rw e (part_none xs (start_of ends (length ends)))

pub ahead_cut : (xs ends : List ℕ) → Divides (length xs) ends → (x y : ℕ) → x < y → y ≤ length ends → ahead xs ends x ≡ between xs ends x y ++ ahead xs ends y
ahead_cut xs ends d x y p h = between_cut xs ends d x y (length ends) (omega arith) h (omega arith)

-- ---- the ends that planning takes

-- rows gathered singly make the windows, and what is gathered passes test 4
pub windows-fit : (rows : List ℕ) → 1 ≤ length rows → length rows ≤ 65535 → seeds_fit rows (windows rows) ≡ true
windows-fit rows h k =
    let none : Gatherer = record { entries = 0; rows = 0; first = 0; last = 0 } in
    let made = windows_singly rows (windows rows) none refl refl h (omega arith) in
    let counts : Counted none (length rows) = record { few = omega arith; in_rows = omega arith; some = λ z. absurd (z refl) } in
    let fill = all_keeps rows none (windows rows) [] (gathers_none none (windows rows) refl refl) counts (omega (arith, made.1)) in
    rw (made.0, made.1, over-take) at (gathers_fit (added_all none rows) (added_all_to (windows rows) none rows) rows fill)

pub ends_fit : (rows seeds : List ℕ) → 1 ≤ length rows → length rows ≤ 65535 → given_fit rows seeds ≡ true → seeds_fit rows (ends_of rows seeds) ≡ true
unfolding given_fit ends_of
ends_fit rows seeds h k g =
    ⊎_elim
    (λ e. rw (pick_true (windows rows) seeds e) (windows-fit rows h k))
    (λ e. rw (pick_false (windows rows) seeds e) (sym (pick_false true (seeds_fit rows seeds) e) ∙ g))
    (either (eqb (length seeds) 0))

-- ---- what the tests before merging give

-- a list that passes the test rises at each step
pub rises_next : (rows : List ℕ) → rises rows ≡ true → (i : ℕ) → i < length rows - 1 → get_or rows i 0 < get_or rows (suc i) 0
unfolding rises up_at
rises_next rows e i h = rw (← add-one i) (ltb-true (get_or rows i 0) (get_or rows (i + 1) 0) (all_at (up_at rows) (length rows - 1) e i h))

rows_rise : (start end : ℕ) (rows : List ℕ) → rows_fit start end rows ≡ true → Rising start end rows
unfolding rows_fit
rows_rise start end rows e =
    let up = rises_next rows (both_right _ _ e) in
    let far = climbs (λ (i : ℕ). get_or rows i 0) (length rows - 1) up in
    let low = leb-true start (get_or rows 0 0) (both_left _ _ (both_left _ _ e)) in
    let high = ltb-true (get_or rows (length rows - 1) 0) end (both_right _ _ (both_left _ _ e)) in
    rising_tests start end rows
    (λ i h. omega (arith, far 0 i (omega arith) (omega arith)))
    (λ i h. omega (arith, far i (length rows - 1) (omega arith) (omega arith)))
    (λ i h. up i (omega arith))

-- of rows in the coverage from start to end, and of the ends of their seeds
pub record Divided (start end : ℕ) (rows ends : List ℕ) (words : ℕ) : Type 0 where
  pub ordered : start < end
  pub spans : end - start ≤ 4294967295
  pub some : 1 ≤ length rows
  pub few : length rows ≤ 65535
  pub rising : Rising start end rows
  pub covered : Covered start rows
  pub positions : Rising 0 (end - start) (positions_of start rows)
  pub fit : seeds_fit rows ends ≡ true
  pub any_seeds : 1 ≤ length ends
  pub few_seeds : length ends ≤ 65535
  pub room : length ends * 24 ≤ words

-- the tests, each met
early_met : (start end : ℕ) (rows seeds : List ℕ) (words : ℕ) → early_number start end rows seeds words ≡ 0
    → (coverage_fits start end ≡ true) × (count_fits rows ≡ true) × (rows_fit start end rows ≡ true) × (given_fit rows seeds ≡ true) × (room_fits rows seeds words ≡ true)
unfolding early_number
early_met start end rows seeds words e =
    let coverage = passes (coverage_fits start end) 1 _ (λ z. omega arith) e in
    let count = passes (count_fits rows) 2 _ (λ z. omega arith) coverage.1 in
    let inside = passes (rows_fit start end rows) 3 _ (λ z. omega arith) count.1 in
    let given = passes (given_fit rows seeds) 4 _ (λ z. omega arith) inside.1 in
    let spare = passes (room_fits rows seeds words) 5 _ (λ z. omega arith) given.1 in
    (coverage.0, count.0, inside.0, given.0, spare.0)

pub early-given : (start end : ℕ) (rows seeds : List ℕ) (words : ℕ) → early_number start end rows seeds words ≡ 0 → given_fit rows seeds ≡ true
early-given start end rows seeds words e = (early_met start end rows seeds words e).3

pub early_divided : (start end : ℕ) (rows seeds : List ℕ) (words : ℕ) → early_number start end rows seeds words ≡ 0 → Divided start end rows (ends_of rows seeds) words
unfolding coverage_fits count_fits room_fits
early_divided start end rows seeds words e =
    let t = early_met start end rows seeds words e in
    let before = ltb-true start end (both_left _ _ t.0) in
    let spans = leb-true (end - start) 4294967295 (both_right _ _ t.0) in
    let some = leb-true 1 (length rows) (both_left _ _ t.1) in
    let few = leb-true (length rows) 65535 (both_right _ _ t.1) in
    let rising = rows_rise start end rows t.2 in
    let fit = ends_fit rows seeds some few t.3 in
    let d = fit_divides rows (ends_of rows seeds) fit some in
    let z : start - start ≡ 0 = omega arith in
    record {
      ordered = before;
      spans = spans;
      some = some;
      few = few;
      rising = rising;
      covered = record { some = some; rising = rising_wider (le_refl start) (omega arith) rising };
      positions = rw z at (positions_rising start (le_refl start) rising);
      fit = fit;
      any_seeds = d.some;
      few_seeds = omega (arith, divides_few (length rows) (ends_of rows seeds) d);
      room = leb-true (length (ends_of rows seeds) * 24) words t.4;
    }
