-- The walk from hole to hole: what stands in the output and what is still to come are the whole answer.
-- Assumes nothing.
use mathlib.Core.Path.{◌≡◌, sym, ◌∙◌}
use mathlib.Core.List.{List, [], ◌∷◌, ◌++◌, append-nil}
use Prim.Native.Nat.{ℕ, suc, ◌+◌, ◌-◌, ◌*◌, ◌<◌, ◌≤◌, min}
use native.Mathlib.Nat.{zero-add, sub-zero}
use native.Mathlib.Numerals.{add-one}
use native.Mathlib.Omega.{arith}
use lib.ListN.{length, get_or, take, drop, drop_of_length-le}
use lib.Seq.{drop-cons}
use Rattle.fields.specs.Le.{le}
use Rattle.model.specs.Lists.{range, moved, complement}
use Rattle.model.specs.Answers.{Walked}
use Rattle.model.proofs.Ranges.{length-range}
use Rattle.model.proofs.Taking.{take-append, take_range, drop_past}
use Rattle.model.proofs.Writing.{Filled, filled_start, filled_length, filled_more, filled_all}
use Rattle.search.proofs.Entries.{entry_at}
use Rattle.lists.specs.Lists.{list_names}
use Rattle.lists.proofs.Laws.{names-length, names_at}
use Rattle.missing.specs.Missing.{Stretched}

-- the front of a stretch and what follows
stretch_front : (r pos end : ℕ) (ys : List ℕ) → take r (range pos (end - pos) ++ ys) ≡ range pos (min (end - pos) r) ++ take (r - (end - pos)) ys
stretch_front r pos end ys = take-append r (range pos (end - pos)) ys ∙ rw (take_range, length-range)

-- ---- the loop, over the holes hs: what is left to write is what fits of the rows from pos on

pub record Going (hs : List ℕ) (span base : ℕ) (before whole out : List ℕ) (i pos at : ℕ) : Type 0 where
  pub filled : Filled base 0 whole before out at
  pub rest : drop at whole ≡ take (length before - at) (complement pos span (drop i hs))

module _ (hs : List ℕ) (span base : ℕ) {before whole : List ℕ} where
  pub going_start : {i pos : ℕ} → take (length before) (complement pos span (drop i hs)) ≡ whole → Going hs span base before whole before i pos 0
  going_start {i} {pos} e = record { filled = filled_start base 0 whole before (omega arith); rest = rw sub-zero (sym e) }

  module _ {out : List ℕ} {i pos at : ℕ} (g : Going hs span base before whole out i pos at) where
    -- one stretch more
    more : {after ys : List ℕ} {end r : ℕ} → Stretched base pos end at out after r → drop at whole ≡ range pos (min (end - pos) (length before - at)) ++ ys
        → Filled base 0 whole before after r × (drop r whole ≡ ys)
    more {after} {ys} {end} {r} s e =
        let n = min (end - pos) (length before - at) in
        let same = filled_length g.filled in
        let f = filled_more g.filled (range pos n) ys e (rw length-range (omega (arith, g.filled.room))) in
        let d = drop_past whole (range pos n) ys at e in
        rw (s.written, s.number, same) (rw (zero-add, length-range) at f, rw length-range at d)

    pub going_next : {after : List ℕ} (x : ℕ) {r : ℕ} → i < length hs → x ≡ get_or hs i 0 → Stretched base pos x at out after r → Going hs span base before whole after (i + 1) (x + 1) r
    unfolding complement
    going_next {after} x {r} l e s =
        let same = filled_length g.filled in
        let left : length before - r ≡ length before - at - (x - pos) = omega (arith, s.number, g.filled.room) in
        let here : drop i hs ≡ x ∷ drop (suc i) hs = rw e (drop-cons hs i 0 l) in
        let step = rw here at g.rest ∙ stretch_front (length before - at) pos x (complement (suc x) span (drop (suc i) hs)) in
        let m = more s step in
        record { filled = m.0; rest = rw (add-one i, add-one x, left) m.1 }

    -- the holes are passed: what is left is one stretch
    pub going_end : {after : List ℕ} {r : ℕ} → length hs ≤ i → Stretched base pos span at out after r → Walked (moved base whole) before after r
    unfolding complement
    going_end {after} {r} h s =
        let none : drop i hs ≡ [] = drop_of_length-le hs h in
        let m = more s (rw none at g.rest ∙ take_range (length before - at) pos (span - pos) ∙ sym (append-nil _)) in
        filled_all m.0 m.1

    -- the output is full
    pub going_full : at ≡ length before → Walked (moved base whole) before out at
    going_full h = let none : length before - at ≡ 0 = omega arith in filled_all g.filled (rw none at g.rest)

-- ---- over the holes of a body

pub hole_inside : (body : List ℕ) (h i : ℕ) → i < h → i < length (list_names 2 body h)
hole_inside body h i l = rw (names-length 2 body h) l

pub holes_passed : (body : List ℕ) (h i : ℕ) → h ≤ i → length (list_names 2 body h) ≤ i
holes_passed body h i l = rw (names-length 2 body h) l

-- the hole that is read
pub hole_at : (body : List ℕ) (h i : ℕ) {x : ℕ} → i < h → x ≡ le 2 body (i * 2) → x ≡ get_or (list_names 2 body h) i 0
hole_at body h i l e = e ∙ entry_at 2 body 2 i ∙ sym (names_at 2 body h i l)
