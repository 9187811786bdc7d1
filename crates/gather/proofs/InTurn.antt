-- A page that is no single seed, and its rows gathered by one call each: the same is accepted, and gives the same record and table.
-- Assumes nothing.
use mathlib.Core.Path.{◌≡◌, refl, sym, ap, ◌∙◌}
use mathlib.Core.Bool.{Bool, true, false}
use mathlib.Core.Logic.{⊎_elim}
use mathlib.Core.List.{List, [], ◌∷◌}
use Prim.Native.Nat.{ℕ, zero, suc, ◌+◌, ◌≤◌}
use native.Mathlib.Omega.{arith}
use lib.Dec.{ltb}
use lib.ListN.{length}
use borrow.Author.Tests.{ne_eqb}
use Rattle.model.specs.Tests.{both, all}
use Rattle.model.specs.Answers.{Answer, accepted}
use Rattle.model.proofs.Tests.{either, pick_false, both_true, both_left, both_right}
use Rattle.model.proofs.Answers.{same_number}
use Rattle.gather_core.specs.declared.Gatherer.{Gatherer}
use Rattle.gather_core.specs.Gather.{values_of, answered, above, joins, added, added_to, row_number, row_answer, row_table, rises, first_of, one_seed, added_all, added_all_to, paged, some_number, page_answer, page_table, Counted}
use Rattle.gather_core.proofs.Climbing.{rises_first, rises_rest, rises_more}
use Rattle.gather.proofs.Answers.{of_values}
use Rattle.gather_core.proofs.Singly.{entries_grow}
use Rattle.gather_core.proofs.Pages.{some_answer, some_table, paged_rows, paged_rows_to}
use Rattle.gather_core.proofs.Admitted.{Able, Passed, passed, passing, fits, fitting, neither, second_decides, answered_yes, kept_new, after, added-joins, added_begins, joins_some, added-length, above_last}

-- rows accepted one by one, from a record and a table to the record and the table at the end
pub data InTurn : Gatherer → List ℕ → List ℕ → Gatherer → List ℕ → Type 0 where
  done : {g : Gatherer} {t : List ℕ} → InTurn g t [] g t
  next : {g h k : Gatherer} {t u : List ℕ} {r : ℕ} {rs : List ℕ} → row_answer g (length t) r ≡ accepted (values_of h) → InTurn h (row_table g t r) rs k u → InTurn g t (r ∷ rs) k u

-- ---- a row that the tests let pass

module _ (g : Gatherer) (room row : ℕ) where
  accepts_row : Able g room → above g row ≡ true → Counted g 1 → (added g row).entries ≤ room → row_number g room row ≡ 0
  unfolding row_number
  accepts_row a up c fit =
      second_decides _ _ (passing g room (above g row) 1 (record { able = a; rises = up; counted = c })) ∙ fitting (added g row) room fit

  -- the record with it in passes test 12 too
  added_able : Able g room → above g row ≡ true → (added g row).entries ≤ room → Able (added g row) room
  added_able a up fit =
      let f = after g row in
      record {
        in_room = fit;
        in_rows = omega (arith, a.in_rows);
        some = λ n. f.some a.some;
        ordered = λ n.
            ⊎_elim
            (λ e. rw (added-joins g row e) (let k = joins_some g row e in omega (arith, a.ordered k, above_last g row up k)))
            (λ e. rw (added_begins g row e) (omega arith))
            (either (joins g row));
      }

  -- and a next row is above its last row where it is above this one
  above-added : (s : ℕ) → above (added g row) s ≡ ltb row s
  unfolding above
  above-added s =
      let f = after g row in
      pick_false _ _ (ne_eqb (added g row).rows 0 (λ z. omega arith)) ∙ rw f.newest

-- ---- rows that rise from above the last row

-- a page's test 3
abbrev pub climbs : Gatherer → List ℕ → Bool
climbs g rows = both (above g (first_of rows)) (rises rows)

climbs_rest : (g : Gatherer) (r s : ℕ) (rs : List ℕ) → climbs g (r ∷ s ∷ rs) ≡ true → climbs (added g r) (s ∷ rs) ≡ true
climbs_rest g r s rs e =
    let a = both_right _ _ e in
    both_true _ _ (above-added g 0 r s ∙ rises_first r (s ∷ rs) (omega arith) a) (rises_rest r (s ∷ rs) a)

climbs_more : (g : Gatherer) (r s : ℕ) (rs : List ℕ) → above g r ≡ true → climbs (added g r) (s ∷ rs) ≡ true → climbs g (r ∷ s ∷ rs) ≡ true
climbs_more g r s rs up e = both_true _ _ up (rises_more r (s ∷ rs) (sym (above-added g 0 r s) ∙ both_left _ _ e) (both_right _ _ e))

-- what the tests of a page of rows that are added singly ask
pub record Taken (g : Gatherer) (t rows : List ℕ) : Type 0 where
  pub able : Able g (length t)
  pub up : climbs g rows ≡ true
  pub few : g.rows + length rows ≤ 65535
  pub fit : (added_all g rows).entries ≤ length t

-- ---- from the page to the rows

one_more : (g k : Gatherer) (t u : List ℕ) (r : ℕ) (rs : List ℕ) → row_number g (length t) r ≡ 0 → InTurn (added g r) (added_to t g r) rs k u → InTurn g t (r ∷ rs) k u
unfolding row_answer row_table
one_more g k t u r rs n rest = next {g = g} {h = added g r} {k = k} {t = t} {u = u} {r = r} {rs = rs} (answered_yes _ _ n) (rw (kept_new _ t (added_to t g r) n) rest)

row_taken : (g : Gatherer) (t : List ℕ) (r : ℕ) (rs : List ℕ) → Taken g t (r ∷ rs) → (row_number g (length t) r ≡ 0) × Able (added g r) (length t)
unfolding added_all
row_taken g t r rs k =
    let grow = entries_grow rs (added g r) in
    let fit : (added g r).entries ≤ length t = omega (arith, k.fit) in
    let a = k.able in
    let up : above g r ≡ true = both_left _ _ k.up in
    (accepts_row g (length t) r a up (record { few = omega (arith, k.few); in_rows = a.in_rows; some = a.some }) fit, added_able g (length t) r a up fit)

pub in_turn : (r : ℕ) (rs : List ℕ) (g : Gatherer) (t : List ℕ) → Taken g t (r ∷ rs) → InTurn g t (r ∷ rs) (added_all g (r ∷ rs)) (added_all_to t g (r ∷ rs))
unfolding added_all added_all_to
in_turn r [] g t k = one_more g _ t _ r [] (row_taken g t r [] k).0 done
in_turn r (s ∷ rs) g t k =
    let n = row_taken g t r (s ∷ rs) k in
    let f = after g r in
    let same = added-length t g r in
    one_more g _ t _ r (s ∷ rs) n.0
    (in_turn s rs (added g r) (added_to t g r)
    (record { able = rw same n.1; up = climbs_rest g r s rs k.up; few = omega (arith, k.few); fit = rw same k.fit }))

-- ---- and back

accepted_is : (n : ℕ) (g h : Gatherer) → answered n g ≡ accepted (values_of h) → (n ≡ 0) × (g ≡ h)
unfolding answered
accepted_is zero g h e = (refl, ap (λ (a : Answer). of_values a.values) e)
accepted_is (suc n) g h e = absurd (omega (arith, same_number e))

module _ (g h : Gatherer) (t : List ℕ) (r : ℕ) (e : row_answer g (length t) r ≡ accepted (values_of h)) where
  row_went : (row_number g (length t) r ≡ 0) × (added g r ≡ h)
  unfolding row_answer
  row_went = accepted_is (row_number g (length t) r) (added g r) h e

  row_left : row_table g t r ≡ added_to t g r
  unfolding row_table
  row_left = kept_new _ _ _ row_went.0

  row_passed : Passed g (length t) (above g r) 1 × ((added g r).entries ≤ length t)
  unfolding row_number
  row_passed = let a = neither _ _ row_went.0 in (passed g (length t) (above g r) 1 a.0, fits (added g r) (length t) a.1)

pub turn_ends : {g k : Gatherer} {t u rows : List ℕ} → InTurn g t rows k u → (k ≡ added_all g rows) × (u ≡ added_all_to t g rows)
unfolding added_all added_all_to
turn_ends done = (refl, refl)
turn_ends (next {g = g} {h = h} {t = t} {r = r} {rs = rs} e rest) =
    let a = turn_ends rest in
    let q = (row_went g h t r e).1 in
    (a.0 ∙ ap (λ (x : Gatherer). added_all x rs) (sym q), a.1 ∙ rw (← q, row_left g h t r e))

pub turn_taken : (r : ℕ) (rs : List ℕ) (g k : Gatherer) (t u : List ℕ) → InTurn g t (r ∷ rs) k u → Taken g t (r ∷ rs)
unfolding added_all rises all
turn_taken r [] g k t u (next {h = h} e rest) =
    let p = row_passed g h t r e in
    record { able = p.0.able; up = both_true _ _ p.0.rises refl; few = p.0.counted.few; fit = p.1 }
turn_taken r (s ∷ rs) g k t u (next {h = h} e rest) =
    let p = row_passed g h t r e in
    let q = (row_went g h t r e).1 in
    let f = after g r in
    let same = added-length t g r in
    let i : Taken (added g r) (added_to t g r) (s ∷ rs) = rw (q, ← row_left g h t r e) (turn_taken s rs h k (row_table g t r) u rest) in
    record { able = p.0.able; up = climbs_more g r s rs p.0.rises i.up; few = omega (arith, i.few); fit = rw same at i.fit }

-- ---- so a page that is no single seed and its rows by one call each agree

module _ (g : Gatherer) (t : List ℕ) (r : ℕ) (rs : List ℕ) (wide : one_seed (r ∷ rs) ≡ false) where
  page_taken : Taken g t (r ∷ rs) → some_number g (length t) (r ∷ rs) ≡ 0
  unfolding some_number
  page_taken k =
      let a = k.able in
      second_decides _ _ (passing g (length t) (climbs g (r ∷ rs)) (length (r ∷ rs)) (record { able = a; rises = k.up; counted = record { few = k.few; in_rows = a.in_rows; some = a.some } }))
      ∙ fitting (paged g (r ∷ rs)) (length t) (rw (paged_rows g (r ∷ rs) wide) k.fit)

  taken_page : some_number g (length t) (r ∷ rs) ≡ 0 → Taken g t (r ∷ rs)
  unfolding some_number
  taken_page e =
      let a = neither _ _ e in
      let p = passed g (length t) (climbs g (r ∷ rs)) (length (r ∷ rs)) a.0 in
      record { able = p.able; up = p.rises; few = p.counted.few; fit = rw (paged_rows g (r ∷ rs) wide) at (fits (paged g (r ∷ rs)) (length t) a.1) }

  some : length (r ∷ rs) ≡ 0 → ⊥
  some z = omega arith

  pub page_in_turn : (h : Gatherer) → page_answer g (length t) (r ∷ rs) ≡ accepted (values_of h) → InTurn g t (r ∷ rs) h (page_table g t (r ∷ rs))
  page_in_turn h e =
      let a = accepted_is _ _ h (sym (some_answer g (r ∷ rs) some (length t)) ∙ e) in
      let to : page_table g t (r ∷ rs) ≡ added_all_to t g (r ∷ rs) = some_table g (r ∷ rs) some t ∙ kept_new _ _ _ a.0 ∙ paged_rows_to g (r ∷ rs) t wide in
      rw (to, ← a.1, paged_rows g (r ∷ rs) wide) (in_turn r rs g t (taken_page a.0))

  pub turn_in_page : (h : Gatherer) (u : List ℕ) → InTurn g t (r ∷ rs) h u → (page_answer g (length t) (r ∷ rs) ≡ accepted (values_of h)) × (page_table g t (r ∷ rs) ≡ u)
  turn_in_page h u i =
      let n = page_taken (turn_taken r rs g h t u i) in
      let q = turn_ends i in
      (some_answer g (r ∷ rs) some (length t) ∙ answered_yes _ _ n ∙ rw (paged_rows g (r ∷ rs) wide, q.0), some_table g (r ∷ rs) some t ∙ kept_new _ _ _ n ∙ paged_rows_to g (r ∷ rs) t wide ∙ sym q.1)
