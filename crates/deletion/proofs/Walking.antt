-- What the loops of a walk have written.
-- Assumes nothing.
use mathlib.Core.Path.{◌≡◌, refl, sym, ap, ◌∙◌}
use mathlib.Core.Bool.{true}
use mathlib.Core.List.{List, [], ◌++◌}
use Prim.Native.Nat.{ℕ, ◌+◌, ◌-◌, ◌<◌, ◌≤◌}
use native.Mathlib.Nat.{zero-add}
use native.Mathlib.Omega.{arith}
use lib.ListN.{length, get_or, take, drop, set, length-take, length-drop}
use lib.Seq.{sets, take-nil, take-add, take-take, take-append-le, drop-nil, drop-drop, length-take-le, get_or-take, get_or-drop}
use Rattle.fields.specs.Le.{Bytes}
use Rattle.model.specs.Lists.{walk_of}
use Rattle.model.specs.Answers.{over, Walked}
use Rattle.model.proofs.Rising.{rising_below}
use Rattle.model.proofs.Sets.{sets-append, sets-next, sets_front}
use Rattle.model.proofs.Writing.{walks_none}
use Rattle.bodies.specs.Bodies.{accepts, names}
use Rattle.bodies.proofs.Named.{names_rising}

-- ---- a page is copied: i of its numbers so far

pub copied_next : (page before out : List ℕ) (at i : ℕ) → out ≡ sets before at (take i page) → i < length page → set out (at + i) (get_or page i 0) ≡ sets before at (take (i + 1) page)
copied_next page before out at i e h = rw e (sym (sets-next page before at i h))

-- a page that a walk from the k-th on filled: its first n numbers are deleted ordinals, and have 16 bits
module _ (tag rows : ℕ) (body : List ℕ) {before page : List ℕ} {r : ℕ} (k n : ℕ) (ok : accepts tag rows body ≡ true) (b : Bytes body)
    (w : Walked (walk_of (names tag rows body) k (length before)) before page r) (h : n ≤ length before) (l : k + n ≤ length (names tag rows body)) where
  walk_room : n ≤ length (walk_of (names tag rows body) k (length before))
  walk_room = rw (length-take, length-drop) (omega arith)

  pub page_front : take n page ≡ walk_of (names tag rows body) k n
  unfolding over
  page_front =
      rw (w.written, take-append-le n (walk_of (names tag rows body) k (length before)) _ walk_room) (take-take n (length before) (drop k (names tag rows body)) h)

  pub page_size : length (take n page) ≡ n
  page_size = rw page_front (length-take-le n (drop k (names tag rows body)) (rw length-drop (omega arith)))

  pub page_narrow : rows ≤ 65535 → (j : ℕ) → j < length (take n page) → get_or (take n page) j 0 ≤ 65535
  page_narrow small j i =
      let within : j < n = omega (arith, page_size) in
      let same : get_or (take n page) j 0 ≡ get_or (names tag rows body) (k + j) 0 =
      ap (λ (xs : List ℕ). get_or xs j 0) page_front ∙ get_or-take n (drop k (names tag rows body)) j 0 within ∙ get_or-drop k (names tag rows body) j 0 in
      rw same (omega (arith, rising_below (names_rising tag rows body ok b) (k + j) (omega arith)))

-- ---- i of n ordinals are written, from the k-th on

pub record Filling (deleted before out : List ℕ) (k n i : ℕ) : Type 0 where
  pub upto : i ≤ n
  pub room : n ≤ length before
  pub left : n ≤ length deleted - k
  pub front : out ≡ sets before 0 (walk_of deleted k i)

pub filling_start : (deleted before : List ℕ) (k n : ℕ) → n ≤ length before → n ≤ length deleted - k → Filling deleted before before k n 0
filling_start deleted before k n h l = record { upto = omega arith; room = h; left = l; front = refl }

module _ {deleted before out : List ℕ} {k n i : ℕ} (f : Filling deleted before out k n i) where
  front_size : length (walk_of deleted k i) ≡ i
  front_size = length-take-le i (drop k deleted) (rw length-drop (omega (arith, f.upto, f.left)))

  -- a page more
  pub filling_next : {new : List ℕ} (m : ℕ) → i + m ≤ n → new ≡ sets out i (walk_of deleted (k + i) m) → Filling deleted before new k n (i + m)
  filling_next {new} m h e =
      let step : walk_of deleted k (i + m) ≡ walk_of deleted k i ++ walk_of deleted (k + i) m = rw (take-add, drop-drop) in
      record { upto = h; room = f.room; left = f.left; front = rw (step, sets-append, front_size, zero-add i, ← f.front) e }

  pub filling_end : n ≤ i → out ≡ over (walk_of deleted k n) before
  filling_end h =
      let e : i ≡ n = omega (arith, f.upto) in
      rw e at (f.front ∙ sets_front (walk_of deleted k i) before (omega (arith, front_size, f.upto, f.room)))

-- a walk of no ordinals writes nothing
pub walked_none : (before : List ℕ) (k : ℕ) → Walked (walk_of [] k (length before)) before before 0
walked_none before k = walks_none before (rw (drop-nil k, take-nil (length before)))
