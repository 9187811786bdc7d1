-- What gathering makes passes planning's test 4 for the rows that were gathered.
-- Assumes nothing.
use Rattle.std.proofs.Common.{◌≡◌, ℕ, zero, suc, ◌+◌, ◌-◌, ◌/◌, ◌<◌, ◌≤◌, true, List, [], ◌∷◌, ◌++◌, length, get_or, take, set, sym, refl, ap, ◌∙◌, ⊎_elim, append-nil, eq-or-lt_of_le, add-one, arith, length-append, length-set, length-take-le, get_or-set_other, get_or-take, get_or-set_same, get_or-append-add, ltb-true, lt-ltb, eq-eqb, le-leb}
use lib.ListN.{get_or-append}
use lib.Seq.{append_snoc}
use Rattle.model.proofs.Tests.{either, both_true, all_from, last_or_before}
use Rattle.gather_core.specs.declared.Gatherer.{Gatherer}
use Rattle.gather_core.specs.Gather.{joins, added, added_to, row_number, first_of, last_of, one_seed, added_all, added_all_to, seeded, paged, paged_to, Counted, Paging}
use Rattle.gather_core.specs.Seeds.{start_of, seed_at, seeds_fit}
use Rattle.gather_core.proofs.Admitted.{joined, begun, added-joins, added_begins, joins_some, joins_window, row_admitted, after_counted, added-length}
use Rattle.gather_core.proofs.Singly.{entries_grow}
use Rattle.gather_core.proofs.Pages.{paged-one, paged_rows, paged_one_to, paged_rows_to}

-- ---- one seed

pub record Seed (rows ends : List ℕ) (i : ℕ) : Type 0 where
  pub some : start_of ends i < get_or ends i 0
  pub inside : get_or ends i 0 ≤ length rows
  pub near : get_or rows (get_or ends i 0 - 1) 0 - get_or rows (start_of ends i) 0 ≤ 65534

-- more rows after it change nothing
seed_more : (rows more ends : List ℕ) (i : ℕ) → Seed rows ends i → Seed (rows ++ more) ends i
seed_more rows more ends i s =
    let l = s.inside in
    let a = s.some in
    record {
      some = s.some;
      inside = rw length-append (omega arith);
      near = rw (get_or-append rows more 0 (get_or ends i 0 - 1) (omega arith), get_or-append rows more 0 (start_of ends i) (omega arith)) s.near;
    }

-- nor does an end stored after its own
start_kept : (ends : List ℕ) (k v i : ℕ) → i ≤ k → start_of (set ends k v) i ≡ start_of ends i
unfolding start_of
start_kept ends k v zero h = refl
start_kept ends k v (suc i) h = get_or-set_other ends k i v 0 (omega arith)

seed_kept : (rows ends : List ℕ) (k v i : ℕ) → i < k → Seed rows ends i → Seed rows (set ends k v) i
seed_kept rows ends k v i h s =
    let e = get_or-set_other ends k i v 0 (omega arith) in
    let f = start_kept ends k v i (omega arith) in
    record { some = rw (e, f) s.some; inside = rw e s.inside; near = rw (e, f) s.near }

-- ---- a record and a table that hold the seeds of rows

pub record Gathers (g : Gatherer) (ends rows : List ℕ) : Type 0 where
  pub total : g.rows ≡ length rows
  pub in_table : g.entries ≤ length ends
  pub started : start_of ends g.entries ≡ length rows
  pub seeds : (i : ℕ) → i < g.entries → Seed rows ends i
  pub first : 1 ≤ g.entries → g.first ≡ get_or rows (start_of ends (g.entries - 1)) 0

pub gathers_none : (g : Gatherer) (ends : List ℕ) → g.entries ≡ 0 → g.rows ≡ 0 → Gathers g ends []
unfolding start_of
gathers_none g ends e z = record { total = z; in_table = rw e (omega arith); started = rw e; seeds = λ i h. absurd (omega arith); first = λ h. absurd (omega arith) }

start_next : (ends : List ℕ) (i : ℕ) → start_of ends (i + 1) ≡ get_or ends i 0
unfolding start_of
start_next ends i = rw add-one

start_last : (ends : List ℕ) (e : ℕ) → 1 ≤ e → start_of ends e ≡ get_or ends (e - 1) 0
start_last ends e h = let q : e ≡ (e - 1) + 1 = omega arith in ap (start_of ends) q ∙ start_next ends (e - 1)

-- ---- a new seed of rows that are near each other

module _ (g h : Gatherer) (t xs ys : List ℕ) (k : Gathers g t xs) (some : 1 ≤ length ys) (room : g.entries < length t) where
  abbrev grown : List ℕ
  grown = set t g.entries (g.rows + length ys)

  end_new : get_or grown g.entries 0 ≡ length xs + length ys
  end_new = get_or-set_same t g.entries (g.rows + length ys) 0 room ∙ ap (λ (n : ℕ). n + length ys) k.total

  start_new : start_of grown g.entries ≡ length xs
  start_new = start_kept t g.entries (g.rows + length ys) g.entries (omega arith) ∙ k.started

  seed_new : last_of ys - first_of ys ≤ 65534 → Seed (xs ++ ys) grown g.entries
  seed_new near =
      let e : length xs + length ys - 1 ≡ length xs + (length ys - 1) = omega arith in
      let z : length xs ≡ length xs + 0 = omega arith in
      record {
        some = rw (end_new, start_new) (omega arith);
        inside = rw (end_new, length-append) (omega arith);
        near = rw (end_new, start_new, e, get_or-append-add xs ys (length ys - 1) 0, z, get_or-append-add xs ys 0 0) near;
      }

  pub begins : last_of ys - first_of ys ≤ 65534 → h.entries ≡ g.entries + 1 → h.rows ≡ g.rows + length ys → h.first ≡ first_of ys → Gathers h grown (xs ++ ys)
  begins near he hr hf =
      let z : length xs ≡ length xs + 0 = omega arith in
      let last : h.entries - 1 ≡ g.entries = omega arith in
      record {
        total = rw length-append (hr ∙ ap (λ (n : ℕ). n + length ys) k.total);
        in_table = rw (length-set, he) (omega arith);
        started = rw (he, start_next, end_new, length-append);
        seeds = λ i l.
            ⊎_elim
            (λ q. rw q (seed_new near))
            (λ m. seed_more xs ys grown i (seed_kept xs t g.entries (g.rows + length ys) i m (k.seeds i m)))
            (last_or_before (rw (he, add-one) at l));
        first = λ o. rw (last, start_new, z, get_or-append-add xs ys 0 0) hf;
      }

-- ---- a row that joins the last seed

module _ (g h : Gatherer) (t xs : List ℕ) (row : ℕ) (k : Gathers g t xs) (some : 1 ≤ g.entries) where
  abbrev stretched : List ℕ
  stretched = set t (g.entries - 1) (g.rows + 1)

  inside_table : g.entries - 1 < length t
  inside_table = omega (arith, k.in_table)

  end_moved : get_or stretched (g.entries - 1) 0 ≡ length xs + 1
  end_moved = get_or-set_same t (g.entries - 1) (g.rows + 1) 0 inside_table ∙ ap (λ (n : ℕ). n + 1) k.total

  start_same : start_of stretched (g.entries - 1) ≡ start_of t (g.entries - 1)
  start_same = start_kept t (g.entries - 1) (g.rows + 1) (g.entries - 1) (omega arith)

  start_before : start_of t (g.entries - 1) < length xs
  start_before =
      let s = (k.seeds (g.entries - 1) (omega arith)).some in
      rw (sym (start_last t g.entries some) ∙ k.started) at s

  seed_moved : row - g.first ≤ 65534 → Seed (xs ++ row ∷ []) stretched (g.entries - 1)
  seed_moved near =
      let e : length xs + 1 - 1 ≡ length xs + 0 = omega arith in
      record {
        some = rw (end_moved, start_same) (omega (arith, start_before));
        inside = rw (end_moved, length-append) (omega arith);
        near = rw (end_moved, start_same, e, get_or-append-add xs (row ∷ []) 0 0, get_or-append xs (row ∷ []) 0 (start_of t (g.entries - 1)) start_before, ← k.first some) near;
      }

  pub stretches : row - g.first ≤ 65534 → h.entries ≡ g.entries → h.rows ≡ g.rows + 1 → h.first ≡ g.first → Gathers h stretched (xs ++ row ∷ [])
  stretches near he hr hf = record {
    total = rw length-append (hr ∙ ap (λ (n : ℕ). n + 1) k.total);
    in_table = rw (length-set, he) k.in_table;
    started = rw (he, start_last stretched g.entries some, end_moved, length-append);
    seeds = λ i l.
        ⊎_elim
        (λ q. rw q (seed_moved near))
        (λ m. seed_more xs (row ∷ []) stretched i (seed_kept xs t (g.entries - 1) (g.rows + 1) i m (k.seeds i (omega arith))))
        (eq-or-lt_of_le (at_most i l));
    first = λ o. rw (he, start_same, get_or-append xs (row ∷ []) 0 (start_of t (g.entries - 1)) start_before) (hf ∙ k.first some);
  }
    where
      at_most : (i : ℕ) → i < h.entries → i ≤ g.entries - 1
      at_most i l = omega (arith, he)

-- ---- what is accepted keeps it so

window_near : (a b : ℕ) → a / 4096 ≡ b / 4096 → a - b ≤ 65534
window_near a b e = omega arith

module _ (g : Gatherer) (t xs : List ℕ) (k : Gathers g t xs) where
  put_keeps : (row : ℕ) → ((g.rows ≡ 0 → ⊥) → 1 ≤ g.entries) → (added g row).entries ≤ length t → Gathers (added g row) (added_to t g row) (xs ++ row ∷ [])
  unfolding added_to
  put_keeps row some room =
      ⊎_elim
      (λ e.
      let s = some (joins_some g row e) in
      rw (added-joins g row e) (stretches g (joined g row) t xs row k s (window_near row g.first (joins_window g row e)) refl refl refl))
      (λ e.
      let q = added_begins g row e in
      let z : g.entries + 1 - 1 ≡ g.entries = omega arith in
      let l : g.entries < length t = omega (arith, rw q at room) in
      rw (q, z) (begins g (begun g row) t xs (row ∷ []) k (omega arith) l (omega arith) refl refl refl))
      (either (joins g row))

  pub row_keeps : (row : ℕ) → row_number g (length t) row ≡ 0 → Gathers (added g row) (added_to t g row) (xs ++ row ∷ [])
  row_keeps row e =
      let a = row_admitted g (length t) row e in
      put_keeps row a.0.some a.1

  -- a page of one seed
  pub seed_keeps : (rows : List ℕ) → 1 ≤ length rows → one_seed rows ≡ true → g.entries < length t → Gathers (seeded g rows) (set t g.entries (g.rows + length rows)) (xs ++ rows)
  unfolding seeded one_seed
  seed_keeps rows some one room =
      begins g (seeded g rows) t xs rows k some room (omega (arith, ltb-true (last_of rows - first_of rows) 65535 one)) refl refl refl

-- rows added singly
pub all_keeps : (rows : List ℕ) (g : Gatherer) (t xs : List ℕ) → Gathers g t xs → Counted g (length rows) → (added_all g rows).entries ≤ length t → Gathers (added_all g rows) (added_all_to t g rows) (xs ++ rows)
unfolding added_all added_all_to
all_keeps [] g t xs k c room = rw append-nil k
all_keeps (r ∷ rs) g t xs k c room =
    let grow : (added g r).entries ≤ (added_all (added g r) rs).entries = entries_grow rs (added g r) in
    let same : length (added_to t g r) ≡ length t = added-length t g r in
    let next = put_keeps g t xs k r c.some (omega arith) in
    rw (← append_snoc xs r rs) (all_keeps rs (added g r) (added_to t g r) (xs ++ r ∷ []) next (after_counted g r (length rs) c) (omega arith))

-- a page
pub page_keeps : (g : Gatherer) (t xs rows : List ℕ) → Gathers g t xs → Paging g (length t) rows → Gathers (paged g rows) (paged_to t g rows) (xs ++ rows)
unfolding seeded
page_keeps g t xs rows k p =
    ⊎_elim
    (λ e.
    let q = paged-one g rows e in
    let l : g.entries + 1 ≤ length t = rw q at p.in_room in
    rw (q, paged_one_to g rows t e) (seed_keeps g t xs k rows p.any e (omega arith)))
    (λ e.
    let q = paged_rows g rows e in
    rw (q, paged_rows_to g rows t e) (all_keeps rows g t xs k p.counted (rw q at p.in_room)))
    (either (one_seed rows))

-- ---- and so planning's test 4 passes for the entries in use and the rows that were gathered

start_take : (t : List ℕ) (e i : ℕ) → i ≤ e → start_of (take e t) i ≡ start_of t i
unfolding start_of
start_take t e zero h = refl
start_take t e (suc i) h = get_or-take e t i 0 h

last_end : (ends : List ℕ) → get_or ends (length ends - 1) 0 ≡ start_of ends (length ends)
unfolding start_of
last_end [] = refl
last_end (x ∷ xs) = sym (start_last (x ∷ xs) (length (x ∷ xs)) (omega arith))

seed_fits : (rows t : List ℕ) (e i : ℕ) → i < e → Seed rows t i → seed_at rows (take e t) i ≡ true
unfolding seed_at
seed_fits rows t e i h s =
    rw (get_or-take e t i 0 h, start_take t e i (omega arith)) (both_true _ _ (lt-ltb _ _ s.some) (le-leb _ _ s.near))

pub gathers_fit : (g : Gatherer) (t xs : List ℕ) → Gathers g t xs → seeds_fit xs (take g.entries t) ≡ true
unfolding seeds_fit
gathers_fit g t xs k =
    let n : length (take g.entries t) ≡ g.entries = length-take-le g.entries t k.in_table in
    let e = g.entries in
    both_true _ _
    (rw n (all_from (seed_at xs (take e t)) e (λ i l. seed_fits xs t e i l (k.seeds i l))))
    (eq-eqb _ _ (last_end (take e t) ∙ rw (n, start_take t e e (omega arith)) k.started))
