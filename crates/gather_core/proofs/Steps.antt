-- Few rows that rise by small steps, where their sum is seen not to wrap around, rise.
-- Assumes nothing.
use Rattle.std.proofs.Common.{◌≡◌, ℕ, zero, suc, ◌+◌, ◌-◌, ◌*◌, ◌%◌, ◌^◌, ◌<◌, ◌≤◌, true, ◌⊎◌, List, ◌∷◌, length, get_or, take, drop, refl, inl, inr, ⊎_elim, add-one, arith, length-take, length-drop, get_or-take, get_or-drop, lt-ltb}
use lib.Bits.{bit_and, and_le_l, and_le_r}
use Rattle.model.specs.Tests.{all}
use Rattle.model.proofs.Tests.{order, last_or_before, same_or_not, both_true}
use Rattle.gather_core.specs.Gather.{up_at, rises, first_of, last_of}
use Rattle.gather_core.specs.Steps.{Up, Step, Stepped}

-- ---- what a difference modulo 2^64 tells

step_of : (a b : ℕ) → a < 2 ^ 64 → b < 2 ^ 64 → Step ((a + (2 ^ 64 - b)) % 2 ^ 64) a b
step_of a b ha hb = ⊎_elim (λ l. inl (l, omega arith)) (λ m. inr (omega arith)) (order a b)

step_less : (k l a b : ℕ) → k ≤ l → Step l a b → Step k a b
step_less k l a b h = ⊎_elim (λ s. inl (s.0, omega arith)) (λ s. inr (omega arith))

pub stepped_none : (least : ℕ) (rows : List ℕ) → Stepped least rows 0
stepped_none least rows = record { step = λ i h. absurd (omega arith) }

-- one step more
stepped_more : (least : ℕ) (rows : List ℕ) (n : ℕ) → get_or rows n 0 < 2 ^ 64 → get_or rows (n + 1) 0 < 2 ^ 64 → Stepped least rows n
    → Stepped (bit_and least ((get_or rows n 0 + (2 ^ 64 - get_or rows (n + 1) 0)) % 2 ^ 64)) rows (n + 1)
stepped_more least rows n ha hb s =
    let d = (get_or rows n 0 + (2 ^ 64 - get_or rows (n + 1) 0)) % 2 ^ 64 in
    record {
      step = λ i h.
          ⊎_elim
          (λ q. rw q (step_less (bit_and least d) d _ _ (and_le_r least d) (step_of _ _ ha hb)))
          (λ l. step_less (bit_and least d) least _ _ (and_le_l least d) (s.step i l))
          (last_or_before (rw add-one at h));
    }

-- ---- the first n steps: rows rise by at most 2^48 each, or their sum went over 2^64 at least once

abbrev Gone : List ℕ → ℕ → Type 0
Gone rows n = ((all (up_at rows) n ≡ true) × (get_or rows n 0 ≤ first_of rows + n * 2 ^ 48)) ⊎ (get_or rows n 0 + 2 ^ 64 ≤ first_of rows + n * 2 ^ 48)

module _ (least : ℕ) (near : 2 ^ 64 - 2 ^ 48 ≤ least) (rows : List ℕ) where
  gone : (n : ℕ) → Stepped least rows n → Gone rows n
  unfolding all up_at
  gone zero s = inl (refl, omega arith)
  gone (suc n) s =
      let t : Step least (get_or rows n 0) (get_or rows (suc n) 0) = rw (add-one n) at (s.step n (omega arith)) in
      ⊎_elim
      (λ g. ⊎_elim (λ (u : Up least (get_or rows n 0) (get_or rows (suc n) 0)). inl (both_true _ _ g.0 (rw (add-one n) (lt-ltb _ _ u.0)), omega arith)) (λ d. inr (omega arith)) t)
      (λ g. inr (⊎_elim (λ u. omega arith) (λ d. omega arith) t))
      (gone n (record { step = λ i h. s.step i (omega arith) }))

  pub rises_so : length rows ≤ 65536 → Stepped least rows (length rows - 1) → first_of rows ≤ last_of rows → rises rows ≡ true
  unfolding rises
  rises_so few s up = ⊎_elim (λ g. g.0) (λ g. absurd (omega arith)) (gone (length rows - 1) s)

-- ---- behind a number, the rows from an index on

-- one step more, to the row at i of the first n
pub behind_more : (x least before n i : ℕ) (rows : List ℕ) → i < length (take n rows) → before < 18446744073709551616 → get_or rows i 0 < 18446744073709551616 → before ≡ get_or (x ∷ rows) i 0 → Stepped least (x ∷ rows) i
    → (get_or (take n rows) i 0 ≡ get_or (x ∷ rows) (i + 1) 0) × Stepped (bit_and least ((before + (2 ^ 64 - get_or (take n rows) i 0)) % 2 ^ 64)) (x ∷ rows) (i + 1)
behind_more x least before n i rows h hb hr e s =
    let l : i < n = omega (arith, length-take n rows) in
    let g : get_or (x ∷ rows) (i + 1) 0 ≡ get_or rows i 0 = rw add-one in
    rw (get_or-take n rows i 0 l, ← g, e) (refl, stepped_more least (x ∷ rows) i (rw e at hb) (rw g hr) s)

module _ (x : ℕ) (rows : List ℕ) where
  pub behind_at : (from i : ℕ) → from ≤ i → get_or (x ∷ drop from rows) (i - from + 1) 0 ≡ get_or rows i 0
  behind_at from i h =
      let e : from + (i - from) ≡ i = omega arith in
      rw (add-one (i - from), get_or-drop from rows (i - from) 0, e)

  pub behind_length : (from : ℕ) → length (x ∷ drop from rows) - 1 ≡ length rows - from
  behind_length from = omega (arith, length-drop from rows)

  pub behind_last : (from : ℕ) → from ≤ length rows → x ≤ last_of rows → x ≤ last_of (x ∷ drop from rows)
  behind_last from h l = rw (behind_length from) (⊎_elim none some (same_or_not (length rows - from) 0))
    where
      none : length rows - from ≡ 0 → x ≤ get_or (x ∷ drop from rows) (length rows - from) 0
      none z = rw z (omega arith)

      some : (length rows - from ≡ 0 → ⊥) → x ≤ get_or (x ∷ drop from rows) (length rows - from) 0
      some z =
          let e : length rows - from ≡ length rows - 1 - from + 1 = omega arith in
          rw (e, behind_at from (length rows - 1) (omega arith)) l
