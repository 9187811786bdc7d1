-- A rising list made of pieces, one after the other, each inside a window of its own: runs, words of a bitmap, segments.
-- Where a position stands and what an ordinal selects is then a question to one piece.
-- Assumes nothing.
use mathlib.Core.Path.{◌≡◌, refl, ap, ◌∙◌}
use mathlib.Core.Bool.{false}
use mathlib.Core.Logic.{⊎_elim}
use mathlib.Core.List.{List, ◌++◌, append_assoc}
use Prim.Native.Nat.{ℕ, zero, suc, ◌+◌, ◌-◌, ◌<◌, ◌≤◌}
use native.Mathlib.Nat.{le_trans}
use native.Mathlib.Omega.{arith}
use lib.ListN.{length, get_or, drop, length-append, get_or-append}
use lib.Seq.{get_or-append-add, drop-append_seam}
use Rattle.model.specs.Tests.{flat}
use Rattle.model.specs.Lists.{Rising, none, below, has}
use Rattle.model.proofs.Tests.{flat_front, last_or_before}
use Rattle.model.proofs.Rising.{rising_append, rising_wider}
use Rattle.model.proofs.Standing.{below_none, below_whole, has_outside}
use Rattle.model.proofs.Append.{below-append, has_left, has_right}

-- piece i lies in [lo i, hi i); the windows follow one another between a and b
pub record Pieces (g : ℕ → List ℕ) (lo hi : ℕ → ℕ) (n a b : ℕ) : Type 0 where
  pub inside : (i : ℕ) → i < n → Rising (lo i) (hi i) (g i)
  pub first : (i : ℕ) → i < n → a ≤ lo i
  pub wide : (i : ℕ) → i < n → lo i ≤ hi i
  pub last : (i : ℕ) → i < n → hi i ≤ b
  pub apart : (i j : ℕ) → i < j → j < n → hi i ≤ lo j

module _ {g : ℕ → List ℕ} {lo hi : ℕ → ℕ} where
  pub fewer : {n a b : ℕ} → Pieces g lo hi (suc n) a b → Pieces g lo hi n a (lo n)
  fewer {n} s = record { inside = λ i l. s.inside i (omega arith); first = λ i l. s.first i (omega arith); wide = λ i l. s.wide i (omega arith); last = λ i l. s.apart i n l (omega arith); apart = λ i j l h. s.apart i j l (omega arith) }

  pub pieces_rising : (n : ℕ) {a b : ℕ} → a ≤ b → Pieces g lo hi n a b → Rising a b (flat g n)
  unfolding flat
  pieces_rising zero h s = none
  pieces_rising (suc n) h s =
      rising_append (s.first n (omega arith)) (le_trans (s.wide n (omega arith)) (s.last n (omega arith))) (pieces_rising n (s.first n (omega arith)) (fewer s))
      (rising_wider (omega arith) (s.last n (omega arith)) (s.inside n (omega arith)))

  -- below the first window nothing stands
  pub pieces_none : (n : ℕ) {a b : ℕ} → Pieces g lo hi n a b → (p : ℕ) → ((i : ℕ) → i < n → p < lo i) → (below (flat g n) p ≡ 0) × (has (flat g n) p ≡ false)
  unfolding flat below has
  pieces_none zero s p h = (refl, refl)
  pieces_none (suc n) s p h =
      let ih = pieces_none n (fewer s) p (λ i l. h i (omega arith)) in
      let r = s.inside n (omega arith) in
      let u = h n (omega arith) in
      let z : has (g n) p ≡ false = has_outside r p (λ w. omega (arith, w.0)) in
      (below-append (flat g n) (g n) p ∙ omega (arith, ih.0, below_none r p (omega arith)), has_left (flat g n) (g n) p z ∙ ih.1)

  -- p is in the window of piece i, or after it and before the next: piece i is asked, and those before it are passed
  pub pieces_place : (n : ℕ) {a b : ℕ} → Pieces g lo hi n a b → (p i : ℕ) → i < n → lo i ≤ p → ((j : ℕ) → i < j → j < n → p < lo j)
      → (below (flat g n) p ≡ length (flat g i) + below (g i) p) × (has (flat g n) p ≡ has (g i) p)
  unfolding flat
  pieces_place zero s p i h l u = absurd (omega arith)
  pieces_place (suc n) s p i h l u =
      ⊎_elim
      (λ (q : i ≡ n).
      let r = pieces_rising n (s.first n (omega arith)) (fewer s) in
      let v : lo n ≤ p = rw q at l in
      rw q (
        below-append (flat g n) (g n) p ∙ rw (below_whole r p v),
        has_right (flat g n) (g n) p (has_outside r p (λ w. omega (arith, w.1))),
      ))
      (λ (q : i < n).
      let ih = pieces_place n (fewer s) p i q l (λ j c d. u j c (omega arith)) in
      let t = s.inside n (omega arith) in
      let v : p < lo n = u n q (omega arith) in
      let z : has (g n) p ≡ false = has_outside t p (λ w. omega (arith, w.0)) in
      (below-append (flat g n) (g n) p ∙ omega (arith, ih.0, below_none t p (omega arith)), has_left (flat g n) (g n) p z ∙ ih.1))
      (last_or_before h)

-- ordinals: piece i holds those from the length of what stands before it on
module _ (g : ℕ → List ℕ) where
  pub flat_split : (n i : ℕ) → i < n → flat g n ≡ flat g i ++ (g i ++ flat (λ (j : ℕ). g (suc i + j)) (n - suc i))
  unfolding flat
  flat_split n i h =
      let e : n ≡ suc i + (n - suc i) = omega arith in
      ap (λ (m : ℕ). flat g m) e ∙ flat_front g (suc i) (n - suc i) ∙ append_assoc (flat g i) (g i) (flat (λ (j : ℕ). g (suc i + j)) (n - suc i))

  pub pieces_select : (n i k : ℕ) → i < n → k < length (g i) → get_or (flat g n) (length (flat g i) + k) 0 ≡ get_or (g i) k 0
  pieces_select n i k h l =
      rw (flat_split n i h) (get_or-append-add (flat g i) (g i ++ flat (λ (j : ℕ). g (suc i + j)) (n - suc i)) k 0 ∙ get_or-append (g i) (flat (λ (j : ℕ). g (suc i + j)) (n - suc i)) 0 k l)

  pub flat_length_le : (i n : ℕ) → i ≤ n → length (flat g i) ≤ length (flat g n)
  flat_length_le i n h =
      let e : n ≡ i + (n - i) = omega arith in
      let f = ap (λ (m : ℕ). length (flat g m)) e ∙ ap length (flat_front g i (n - i)) ∙ length-append (flat g i) (flat (λ (j : ℕ). g (i + j)) (n - i)) in
      omega (arith, f)

  -- what is left from ordinal length (flat g i) on
  pub flat_rest : (n i : ℕ) → i < n → drop (length (flat g i)) (flat g n) ≡ g i ++ flat (λ (j : ℕ). g (suc i + j)) (n - suc i)
  flat_rest n i h = rw (flat_split n i h) (drop-append_seam (flat g i) _)
