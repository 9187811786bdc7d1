-- Rows gathered singly from nothing: the table holds the windows that planning takes where no seeds are given.
-- Assumes nothing.
use Rattle.std.proofs.Common.{◌≡◌, ℕ, zero, suc, ◌+◌, ◌-◌, ◌/◌, ◌<◌, ◌≤◌, true, false, List, [], ◌∷◌, ◌++◌, length, get_or, take, set, sym, refl, ap, ◌∙◌, ⊎_elim, add-one, arith, length-append, take_all, take-suc, set-set, eq-eqb, ne_eqb, eqb-true}
use Rattle.model.specs.Answers.{over}
use Rattle.model.proofs.Tests.{either, pick_true, pick_false}
use Rattle.model.proofs.Writing.{over-next}
use Rattle.gather_core.specs.declared.Gatherer.{Gatherer}
use Rattle.gather_core.specs.Gather.{joins, added, added_to, added_all, added_all_to}
use Rattle.gather_core.specs.Seeds.{same_at, cuts, windows}
use Rattle.gather_core.proofs.Admitted.{begun, added-joins, added_begins}

-- ---- rows after rows

pub all_append : (xs ys : List ℕ) (g : Gatherer) → added_all g (xs ++ ys) ≡ added_all (added_all g xs) ys
unfolding added_all
all_append [] ys g = refl
all_append (x ∷ xs) ys g = all_append xs ys (added g x)

pub all_to_append : (xs ys : List ℕ) (t : List ℕ) (g : Gatherer) → added_all_to t g (xs ++ ys) ≡ added_all_to (added_all_to t g xs) (added_all g xs) ys
unfolding added_all added_all_to
all_to_append [] ys t g = refl
all_to_append (x ∷ xs) ys t g = all_to_append xs ys (added_to t g x) (added g x)

-- the last entry of the front written once more
over_again : (front xs : List ℕ) (u v : ℕ) → length front < length xs → set (over (front ++ (u ∷ [])) xs) (length front) v ≡ over (front ++ (v ∷ [])) xs
over_again front xs u v h =
    ap (λ (l : List ℕ). set l (length front) v) (sym (over-next front xs (length front) u refl h))
    ∙ set-set (over front xs) (length front) u v
    ∙ over-next front xs (length front) v refl h

-- ---- the ends of the windows, row by row

pub cuts-same : (rows : List ℕ) (i : ℕ) → same_at rows i ≡ true → cuts rows (suc i) ≡ cuts rows i
unfolding cuts
cuts-same rows i e = pick_true _ _ e

pub cuts_more : (rows : List ℕ) (i : ℕ) → same_at rows i ≡ false → cuts rows (suc i) ≡ cuts rows i ++ (suc i ∷ [])
unfolding cuts
cuts_more rows i e = pick_false _ _ e

cuts_grow : (rows : List ℕ) (i : ℕ) → length (cuts rows i) ≤ length (cuts rows (suc i))
cuts_grow rows i =
    ⊎_elim (λ e. rw (cuts-same rows i e) (omega arith)) (λ e. rw (cuts_more rows i e, length-append) (omega arith)) (either (same_at rows i))

joins_none : (g : Gatherer) (row : ℕ) → g.rows ≡ 0 → joins g row ≡ false
unfolding joins
joins_none g row e = pick_true _ _ (eq-eqb g.rows 0 e)

-- ---- after i + 1 rows

module _ (rows t : List ℕ) (none : Gatherer) (empty : none.rows ≡ 0) (clear : none.entries ≡ 0) where
  abbrev held : ℕ → Gatherer
  held i = added_all none (take (suc i) rows)

  abbrev shown : ℕ → List ℕ
  shown i = added_all_to t none (take (suc i) rows)

  pub record Windowed (i : ℕ) : Type 0 where
    pub total : (held i).rows ≡ suc i
    pub entries : (held i).entries ≡ suc (length (cuts rows i))
    pub window : (held i).first / 4096 ≡ get_or rows i 0 / 4096
    pub table : shown i ≡ over (cuts rows i ++ (suc i ∷ [])) t

  held_next : (i : ℕ) → suc i < length rows → held (suc i) ≡ added (held i) (get_or rows (suc i) 0)
  unfolding added_all
  held_next i h = rw (take-suc rows (suc i) 0 h) (all_append (take (suc i) rows) (get_or rows (suc i) 0 ∷ []) none)

  shown_next : (i : ℕ) → suc i < length rows → shown (suc i) ≡ added_to (shown i) (held i) (get_or rows (suc i) 0)
  unfolding added_all_to
  shown_next i h = rw (take-suc rows (suc i) 0 h) (all_to_append (take (suc i) rows) (get_or rows (suc i) 0 ∷ []) t none)

  windowed_first : 0 < length rows → 0 < length t → Windowed 0
  unfolding added_all added_all_to added_to cuts over
  windowed_first h room =
      let one : take 1 rows ≡ get_or rows 0 0 ∷ [] = take-suc rows 0 0 h in
      let q : added none (get_or rows 0 0) ≡ begun none (get_or rows 0 0) = added_begins none (get_or rows 0 0) (joins_none none (get_or rows 0 0) empty) in
      record {
        total = rw (one, q, empty);
        entries = rw (one, q, clear);
        window = rw (one, q);
        table = rw (one, q, empty, clear) (over-next [] t 0 1 refl room);
      }

  -- the row's test against the window of the seed's first row is the test against the row before it
  same_window : (i : ℕ) → Windowed i → joins (held i) (get_or rows (suc i) 0) ≡ same_at rows i
  unfolding joins same_at
  same_window i w = let e = w.total in pick_false _ _ (ne_eqb (held i).rows 0 (λ z. omega arith)) ∙ rw w.window

  windowed_next : (i : ℕ) → suc i < length rows → length (cuts rows (suc i)) < length t → Windowed i → Windowed (suc i)
  unfolding added_to same_at
  windowed_next i h room w =
      ⊎_elim
      (λ e.
      let q = added-joins (held i) (get_or rows (suc i) 0) (same_window i w ∙ e) in
      let c = cuts-same rows i e in
      let n : suc (length (cuts rows i)) - 1 ≡ length (cuts rows i) = omega arith in
      record {
        total = rw (held_next i h, q, w.total) (omega arith);
        entries = rw (held_next i h, q, w.entries, c);
        window = rw (held_next i h, q, w.window) (sym (eqb-true _ _ e));
        table = rw (shown_next i h, q, w.entries, w.table, w.total, c, n, add-one (suc i)) (over_again (cuts rows i) t (suc i) (suc (suc i)) (rw c at room));
      })
      (λ e.
      let q = added_begins (held i) (get_or rows (suc i) 0) (same_window i w ∙ e) in
      let c = cuts_more rows i e in
      let m : suc (length (cuts rows i)) + 1 - 1 ≡ suc (length (cuts rows i)) = omega arith in
      let l : length (cuts rows i ++ (suc i ∷ [])) ≡ suc (length (cuts rows i)) = rw length-append (omega arith) in
      record {
        total = rw (held_next i h, q, w.total) (omega arith);
        entries = rw (held_next i h, q, w.entries, c, length-append) (omega arith);
        window = rw (held_next i h, q);
        table = rw (shown_next i h, q, w.entries, w.table, w.total, c, m, add-one (suc i)) (over-next (cuts rows i ++ (suc i ∷ [])) t (suc (length (cuts rows i))) (suc (suc i)) l (rw (c, l) at room));
      })
      (either (same_at rows i))

  windowed : (i : ℕ) → i < length rows → length (cuts rows i) < length t → Windowed i
  windowed zero h room = windowed_first h (omega arith)
  windowed (suc i) h room = windowed_next i h room (windowed i (omega arith) (omega (arith, cuts_grow rows i)))

  -- all rows: the table holds their windows, the rest of it as it was
  pub windows_singly : 1 ≤ length rows → length (windows rows) ≤ length t → (added_all_to t none rows ≡ over (windows rows) t) × ((added_all none rows).entries ≡ length (windows rows))
  unfolding windows
  windows_singly h room =
      let e : suc (length rows - 1) ≡ length rows = omega arith in
      let l : length (cuts rows (length rows - 1) ++ (length rows ∷ [])) ≡ length (cuts rows (length rows - 1)) + 1 = length-append (cuts rows (length rows - 1)) (length rows ∷ []) in
      let w = windowed (length rows - 1) (omega arith) (omega arith) in
      let whole : take (suc (length rows - 1)) rows ≡ rows = take_all (suc (length rows - 1)) rows (omega arith) in
      (rw (whole, e) at w.table, rw whole at w.entries ∙ sym (l ∙ add-one _))
