-- A page: empty or not, one seed or row by row, and what holds where no test refused it.
-- Assumes nothing.
use Rattle.std.proofs.Common.{◌≡◌, ℕ, zero, suc, ◌+◌, ◌-◌, ◌<◌, ◌≤◌, Bool, true, false, ◌&&◌, List, ◌∷◌, length, set, sym, refl, ◌∙◌, ⊎_elim, arith, ltb-true, eq-eqb, ne_eqb}
use Rattle.model.specs.Tests.{pick, both}
use Rattle.model.proofs.Counted.{and_both}
use Rattle.model.proofs.Tests.{either, pick_true, pick_false, both_true, both_right}
use Rattle.gather_core.specs.declared.Gatherer.{Gatherer}
use Rattle.gather_core.specs.Gather.{answered, kept, impossible, above, early, rises, first_of, one_seed, added_all, added_all_to, seeded, paged, paged_to, some_number, page_number, page_answer, page_table, Counted, Paging, GoesIn}
use Rattle.gather_core.proofs.Admitted.{Able, Passed, neither, passed, passing, fits, fitting, second_decides, last_above}
use Rattle.gather_core.proofs.Climbing.{rises_first, rises_rest}
use Rattle.gather_core.proofs.Singly.{entries_few}

kept_same : (k : ℕ) (t : List ℕ) → kept k t t ≡ t
unfolding kept
kept_same zero t = refl
kept_same (suc k) t = refl

module _ (g : Gatherer) (rows : List ℕ) (e : length rows ≡ 0) where
  pub empty_answer : (room : ℕ) → page_answer g room rows ≡ answered (pick (impossible g room) 12 0) g
  unfolding page_answer page_number pick
  empty_answer room = rw (eq-eqb (length rows) 0 e)

  pub empty_table : (t : List ℕ) → page_table g t rows ≡ t
  unfolding page_table
  empty_table t = rw (pick_true _ _ (eq-eqb (length rows) 0 e)) (kept_same (page_number g (length t) rows) t)

module _ (g : Gatherer) (rows : List ℕ) (n : length rows ≡ 0 → ⊥) where
  pub some_number_lem : (room : ℕ) → page_number g room rows ≡ some_number g room rows
  unfolding page_number
  some_number_lem room = pick_false _ _ (ne_eqb (length rows) 0 n)

  pub some_answer : (room : ℕ) → page_answer g room rows ≡ answered (some_number g room rows) (paged g rows)
  unfolding page_answer
  some_answer room = rw (some_number_lem room, pick_false _ _ (ne_eqb (length rows) 0 n))

  pub some_table : (t : List ℕ) → page_table g t rows ≡ kept (some_number g (length t) rows) t (paged_to t g rows)
  unfolding page_table
  some_table t = rw (some_number_lem (length t), pick_false _ _ (ne_eqb (length rows) 0 n))

  pub page_admitted : (room : ℕ) → some_number g room rows ≡ 0 → Paging g room rows
  unfolding some_number
  page_admitted room e =
      let a = neither _ _ e in
      let p = passed g room _ (length rows) a.0 in
      record { counted = p.counted; any = omega arith; rising = both_right _ _ p.rises; in_room = fits (paged g rows) room a.1 }

-- the tests that come first, of the code's conjunction
pub page_early : (g : Gatherer) (room n : ℕ) {k : ℕ} {a b : Bool} (rows : List ℕ) → k ≡ early g room (a && b) n → a ≡ above g (first_of rows) → b ≡ rises rows → k ≡ early g room (both (above g (first_of rows)) (rises rows)) n
page_early g room n rows e p q = rw (← p, ← q, ← and_both) e

pub page_passed : (g : Gatherer) (room n : ℕ) {a b : Bool} (rows : List ℕ) → 0 ≡ early g room (a && b) n → a ≡ above g (first_of rows) → b ≡ rises rows → Passed g room (both (above g (first_of rows)) (rises rows)) n
page_passed g room n rows e p q = passed _ _ _ _ (sym (page_early g room n rows e p q))

-- ---- one seed, or row by row

module _ (g : Gatherer) (rows : List ℕ) where
  pub paged-one : one_seed rows ≡ true → paged g rows ≡ seeded g rows
  unfolding paged
  paged-one e = pick_true _ _ e

  pub paged_rows : one_seed rows ≡ false → paged g rows ≡ added_all g rows
  unfolding paged
  paged_rows e = pick_false _ _ e

  pub paged_one_to : (t : List ℕ) → one_seed rows ≡ true → paged_to t g rows ≡ set t g.entries (g.rows + length rows)
  unfolding paged_to
  paged_one_to t e = pick_true _ _ e

  pub paged_rows_to : (t : List ℕ) → one_seed rows ≡ false → paged_to t g rows ≡ added_all_to t g rows
  unfolding paged_to
  paged_rows_to t e = pick_false _ _ e

  -- a page makes no more seeds than it has rows
  pub paged_few : 0 < length rows → (paged g rows).entries ≤ g.entries + length rows
  unfolding seeded
  paged_few some = ⊎_elim (λ e. rw (paged-one e) (omega arith)) (λ e. rw (paged_rows e) (entries_few rows g)) (either (one_seed rows))

  -- a page that goes in behind others, where each of its rows has room
  pub goes_in : (room : ℕ) → 0 < length rows → 1 ≤ g.entries → g.entries ≤ room → length rows ≤ room - g.entries → g.entries ≤ g.rows → g.rows + length rows ≤ 65535 → g.first ≤ g.last → rises (g.last ∷ rows) ≡ true → GoesIn g room rows
  unfolding some_number
  goes_in room any some in_room free in_rows few ordered r =
      let a : Able g room = record { in_room = in_room; in_rows = in_rows; some = λ n. some; ordered = λ n. ordered } in
      let up = last_above g (first_of rows) (λ z. omega arith) (ltb-true _ _ (rises_first g.last rows any r)) in
      let k : Counted g (length rows) = record { few = few; in_rows = in_rows; some = a.some } in
      let p = passing g room _ (length rows) (record { able = a; rises = both_true _ _ up (rises_rest g.last rows r); counted = k }) in
      record { any = any; number = second_decides _ _ p ∙ fitting (paged g rows) room (omega (arith, paged_few any)) }
