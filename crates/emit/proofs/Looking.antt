-- The look ahead: rows that stand one behind the other, and the masks that take them.
-- Assumes nothing.
use mathlib.Core.Path.{◌≡◌, refl, ◌∙◌}
use mathlib.Core.Bool.{true, false}
use mathlib.Core.List.{List}
use Prim.Native.Nat.{ℕ, ◌+◌, ◌-◌, ◌/◌, ◌%◌, ◌<◌, ◌≤◌, min}
use native.Mathlib.Omega.{arith}
use lib.Dec.{eqb}
use lib.ListN.{length, get_or}
use borrow.Author.Tests.{eqb-true, ne_eqb}
use Rattle.model.specs.Lists.{Rising, positions_of}
use Rattle.model.proofs.Positions.{length_positions, get_or_positions}
use Rattle.model.proofs.Rising.{rising_from, rising_room}
use Rattle.emit.specs.declared.Outlook.{Outlook}
use Rattle.emit.specs.declared.Word.{Word}
use Rattle.emit.specs.Words.{with_digit, with_run, Cut, Worded, Wording, Onward, Spaced, Unbroken, Sight}
use Rattle.emit.proofs.Passing.{Stands, positions_below}
use Rattle.emit.proofs.Wording.{Stretch, apart, wording_run, wording_next, wording_stop}

pub spaced : {base : ℕ} {rows : List ℕ} → Rising base (base + 4294967295) rows → Spaced rows
spaced r = record { apart = apart r; few = omega (arith, rising_room (omega arith) r) }

-- ---- rows without a break

module _ {rows : List ℕ} where
  -- a row between, and one behind it
  unbroken_at : {a b : ℕ} → Spaced rows → Unbroken rows a b → (j m : ℕ) → a ≤ j → j + m ≤ b → get_or rows (j + m) 0 ≡ get_or rows j 0 + m
  unbroken_at {a} {b} s u j m h l = omega (arith, s.apart a j h (omega arith), s.apart j (j + m) (omega arith) (omega arith), s.apart (j + m) b l u.inside)

  pub sight_none : {a : ℕ} → a ≤ length rows → Sight rows (record { start = a; stop = a })
  sight_none h = record { order = omega arith; inside = h; run = λ l. absurd (omega arith) }

-- ---- on the way through the rows of one word

module _ {xs : List ℕ} {k stop : ℕ} where
  pub onward_start : {w : Word} → w.next ≤ stop → Onward xs k 0 stop w w
  onward_start h = record { kept = λ i c s. s; within = h; out = λ l. absurd (omega arith) }

  -- a single row more
  pub onward_next : {w : Word} {bits j b q more : ℕ} → Onward xs k 0 stop w (record { bits = bits; next = j }) → Rising 0 b xs → Stands xs j q → eqb (q / 64) k ≡ true → more ≡ with_digit bits q → j < stop → Onward xs k 0 stop w (record { bits = more; next = j + 1 })
  onward_next o r f e d h = record { kept = λ i c s. wording_next c (o.kept i c s) r f e d; within = omega arith; out = λ l. absurd (omega arith) }

  -- up to another index, where the row behind it stands in another word
  pub onward_upto : {from upto : ℕ} {w r : Word} → Onward xs k from stop w r → (r.next < upto → eqb (get_or xs r.next 0 / 64) k ≡ false) → Onward xs k upto stop w r
  onward_upto o f = record { kept = o.kept; within = o.within; out = f }

  -- a row of another word before the end says that the word is through
  pub onward_end : {b i : ℕ} {w r : Word} → Cut xs k i → Rising 0 b xs → Wording xs k i w → Onward xs k stop stop w r → r.next < stop → stop ≤ length xs → Worded xs k i r
  onward_end c r s o h l = wording_stop c (o.kept _ c s) r (omega arith, refl) (o.out h)

-- n rows of a run up to index stop, from that of index j and position q on: as many as the word of q has room for, or all
pub record Part (stop j q n : ℕ) : Type 0 where
  pub some : 1 ≤ n
  pub fits : q % 64 + n ≤ 64
  pub inside : j + n ≤ stop
  pub full : j + n < stop → 64 ≤ q % 64 + n

pub part_min : (stop j q : ℕ) {n : ℕ} → j < stop → n ≡ min (64 - q % 64) (stop - j) → Part stop j q n
part_min stop j q h e = record { some = omega arith; fits = omega arith; inside = omega arith; full = λ l. omega arith }

-- a position behind another, by their rows
behind : (base x y q m : ℕ) → q ≡ x - base → base ≤ x → y ≡ x + m → y - base ≡ q + m
behind base x y q m e h f = omega arith

module _ {base : ℕ} {rows : List ℕ} (r : Rising base (base + 4294967295) rows) {a : Outlook} (s : Sight rows a) {j q : ℕ} (h : a.start ≤ j) (l : j < a.stop) (e : q ≡ get_or rows j 0 - base) where
  run_at : (m : ℕ) → j + m < a.stop → get_or (positions_of base rows) (j + m) 0 ≡ q + m
  run_at m g = get_or_positions base rows (j + m) (omega arith) ∙ behind base _ _ q m e (rising_from r j (omega arith)) (unbroken_at (spaced r) (s.run (omega arith)) j m h (omega arith))

  run-stretch : {n : ℕ} → Part a.stop j q n → Stretch (positions_of base rows) j q n
  run-stretch p = record { some = p.some; fits = p.fits; inside = rw length_positions (omega arith); each = λ m g. run_at m (omega arith) }

  -- if the run has more, the next of them stands in the next word
  run_out : {n : ℕ} → Part a.stop j q n → (k : ℕ) → eqb (q / 64) k ≡ true → j + n < a.stop → eqb (get_or (positions_of base rows) (j + n) 0 / 64) k ≡ false
  run_out {n} p k t g = rw (run_at n g) (ne_eqb _ k (λ (z : (q + n) / 64 ≡ k). omega (arith, eqb-true (q / 64) k t, p.full g)))

pub onward_run : {base : ℕ} {rows : List ℕ} → Rising base (base + 4294967295) rows → {a : Outlook} → Sight rows a → {w m : Word} {q n : ℕ} (k : ℕ) → a.start ≤ w.next → w.next < a.stop → q ≡ get_or rows w.next 0 - base → Part a.stop w.next q n
    → eqb (q / 64) k ≡ true → m ≡ with_run w q n → Onward (positions_of base rows) k a.stop a.stop w m
onward_run {base} r s k h l e p t f = rw f (record { kept = λ i c v. wording_run c v (positions_below base 4294967295 r) (run-stretch r s h l e p) t; within = p.inside; out = run_out r s h l e p k t })
