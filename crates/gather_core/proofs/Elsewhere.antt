-- Gathering changes no entry before the last seed's, and none after the new last one.
-- Assumes nothing.
use Rattle.std.proofs.Common.{◌≡◌, ℕ, ◌+◌, ◌-◌, ◌<◌, ◌≤◌, ◌⊎◌, List, [], ◌∷◌, length, get_or, refl, ◌∙◌, inl, inr, ⊎_elim, arith, get_or-set_other}
use Rattle.gather_core.specs.declared.Gatherer.{Gatherer}
use Rattle.gather_core.specs.Gather.{added, added_to, row_number, row_table, one_seed, added_all, added_all_to, seeded, paged, paged_to, some_number, page_table, Counted}
use Rattle.model.proofs.Tests.{either, same_or_not}
use Rattle.gather_core.proofs.Admitted.{after, after_counted, row_admitted, kept_new, kept_old}
use Rattle.gather_core.proofs.Singly.{entries_grow}
use Rattle.gather_core.proofs.Pages.{empty_table, some_table, paged-one, paged_rows, paged_one_to, paged_rows_to, page_admitted}

-- an entry that is not the last one in use, nor a new one
abbrev pub Elsewhere : Gatherer → Gatherer → ℕ → Type 0
Elsewhere g h i = (i + 1 < g.entries) ⊎ (h.entries ≤ i)

put_elsewhere : (g : Gatherer) (t : List ℕ) (row i : ℕ) → Counted g 1 → Elsewhere g (added g row) i → get_or (added_to t g row) i 0 ≡ get_or t i 0
unfolding added_to
put_elsewhere g t row i c e =
    let a = after g row in
    let s = a.some c.some in
    get_or-set_other t ((added g row).entries - 1) i (g.rows + 1) 0 (⊎_elim (λ l q. omega arith) (λ m q. omega arith) e)

pub row_elsewhere : (g : Gatherer) (t : List ℕ) (row i : ℕ) → Elsewhere g (added g row) i → get_or (row_table g t row) i 0 ≡ get_or t i 0
unfolding row_table
row_elsewhere g t row i e =
    ⊎_elim
    (λ z. rw (kept_new _ t (added_to t g row) z) (put_elsewhere g t row i (row_admitted g (length t) row z).0 e))
    (λ n. rw (kept_old _ t (added_to t g row) n))
    (same_or_not (row_number g (length t) row) 0)

all_elsewhere : (rows : List ℕ) (g : Gatherer) (t : List ℕ) (i : ℕ) → Counted g (length rows) → Elsewhere g (added_all g rows) i → get_or (added_all_to t g rows) i 0 ≡ get_or t i 0
unfolding added_all added_all_to
all_elsewhere [] g t i c e = refl
all_elsewhere (r ∷ rs) g t i c e =
    let a = after g r in
    let grow = entries_grow rs (added g r) in
    all_elsewhere rs (added g r) (added_to t g r) i (after_counted g r (length rs) c) (⊎_elim (λ l. inl (omega arith)) (λ m. inr m) e)
    ∙ put_elsewhere g t r i (record { few = omega (arith, c.few); in_rows = c.in_rows; some = c.some }) (⊎_elim (λ l. inl l) (λ m. inr (omega arith)) e)

paged_elsewhere : (g : Gatherer) (t rows : List ℕ) (i : ℕ) → Counted g (length rows) → Elsewhere g (paged g rows) i → get_or (paged_to t g rows) i 0 ≡ get_or t i 0
unfolding seeded
paged_elsewhere g t rows i c e =
    ⊎_elim
    (λ o.
    let f : Elsewhere g (seeded g rows) i = rw (paged-one g rows o) at e in
    rw (paged_one_to g rows t o) (get_or-set_other t g.entries i (g.rows + length rows) 0 (⊎_elim (λ l q. omega arith) (λ m q. omega arith) f)))
    (λ o. rw (paged_rows_to g rows t o) (all_elsewhere rows g t i c (rw (paged_rows g rows o) at e)))
    (either (one_seed rows))

pub page_elsewhere : (g : Gatherer) (t rows : List ℕ) (i : ℕ) → Elsewhere g (paged g rows) i → get_or (page_table g t rows) i 0 ≡ get_or t i 0
page_elsewhere g t rows i e =
    ⊎_elim
    (λ z. rw (empty_table g rows z t))
    (λ n.
    ⊎_elim
    (λ z. rw (some_table g rows n t, kept_new _ t (paged_to t g rows) z) (paged_elsewhere g t rows i (page_admitted g rows n (length t) z).counted e))
    (λ m. rw (some_table g rows n t, kept_old _ t (paged_to t g rows) m))
    (same_or_not (some_number g (length t) rows) 0))
    (same_or_not (length rows) 0)
