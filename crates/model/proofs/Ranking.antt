-- Many ranks: what a loop over queries has written so far, whatever it answers; and the answers of a part by its place.
-- Assumes nothing.
use mathlib.Core.Path.{◌≡◌, refl, sym, ap, ◌∙◌}
use mathlib.Core.Bool.{true, false}
use mathlib.Core.Logic.{⊎_elim}
use mathlib.Core.List.{List, [], ◌∷◌, ◌++◌, map, map-append, map_congr_left}
use Prim.Native.Nat.{ℕ, ◌+◌, ◌-◌, ◌<◌, ◌≤◌}
use native.Mathlib.Numerals.{add-one}
use native.Mathlib.Omega.{arith}
use lib.ListN.{length, get_or, take, set, length-map}
use lib.Seq.{take-suc, length-take-le, take_all}
use borrow.Author.Tests.{leb-true, ltb-true, le-leb, lt-ltb}
use Rattle.model.specs.Lists.{Rising, place_of, shift}
use Rattle.model.specs.Answers.{over, rank_or_none, ranks_of, lies_in, rank_in}
use Rattle.model.specs.declared.Place.{Place}
use Rattle.model.proofs.Tests.{either, never, pick_true, pick_false, both_true, both_left, both_right}
use Rattle.model.proofs.Standing.{has_outside}
use Rattle.model.proofs.Append.{place_shift, shift_rising}
use Rattle.model.proofs.Writing.{over_none, over-length, over-next}

-- ---- a loop that answers query after query: i are answered

pub map_same : {A B : Type 0} {f g : A → B} → ((x : A) → f x ≡ g x) → (xs : List A) → map f xs ≡ map g xs
map_same e xs = map_congr_left {l = xs} (λ a _. e a)

pub record Answering (f : ℕ → ℕ) (ps before out : List ℕ) (i : ℕ) : Type 0 where
  pub upto : i ≤ length ps
  pub room : length ps ≤ length before
  pub front : out ≡ over (map f (take i ps)) before

pub answering_start : (f : ℕ → ℕ) (ps before : List ℕ) → length ps ≤ length before → Answering f ps before before 0
answering_start f ps before h = record { upto = omega arith; room = h; front = sym (over_none before) }

module _ {f : ℕ → ℕ} {ps before out : List ℕ} {i : ℕ} (g : Answering f ps before out i) where
  front_size : length (map f (take i ps)) ≡ i
  front_size = length-map (take i ps) f ∙ length-take-le i ps g.upto

  pub answering_length : length out ≡ length before
  answering_length = ap length g.front ∙ over-length (map f (take i ps)) before (omega (arith, front_size, g.upto, g.room))

  pub answering_next : {v : ℕ} → i < length ps → v ≡ f (get_or ps i 0) → Answering f ps before (set out i v) (i + 1)
  answering_next {v} h e =
      let step : map f (take (i + 1) ps) ≡ map f (take i ps) ++ (v ∷ []) = rw (add-one i, take-suc ps i 0 h, e) (map-append f (take i ps) (get_or ps i 0 ∷ [])) in
      record { upto = omega arith; room = g.room; front = rw (g.front, step) (over-next (map f (take i ps)) before i v front_size (omega (arith, g.room))) }

  pub answering_end : length ps ≤ i → out ≡ over (map f ps) before
  answering_end h = rw (take_all i ps h) at g.front

pub length_ranks : (rows ps : List ℕ) → length (ranks_of rows ps) ≡ length ps
unfolding ranks_of
length_ranks rows ps = length-map ps (λ p. rank_or_none (place_of rows p))

-- ---- one answer of a part

pub lies : (base span p : ℕ) → base ≤ p → p < base + span → lies_in base span p ≡ true
unfolding lies_in
lies base span p g h = both_true _ _ (le-leb base p g) (lt-ltb (p - base) span (omega arith))

pub lies_from : (base span p : ℕ) → lies_in base span p ≡ true → base ≤ p
unfolding lies_in
lies_from base span p e = leb-true _ _ (both_left _ _ e)

pub lies_below : (base span p : ℕ) → lies_in base span p ≡ true → p - base < span
unfolding lies_in
lies_below base span p e = ltb-true _ _ (both_right _ _ e)

module _ (place : ℕ → Place) (base span p : ℕ) where
  pub rank_out : lies_in base span p ≡ false → 4294967295 ≡ rank_in place base span p
  unfolding rank_in
  rank_out e = sym (pick_false _ _ e)

  pub rank_in_lem : {r : ℕ} {q : Place} → lies_in base span p ≡ true → q ≡ place (p - base) → r ≡ rank_or_none q → r ≡ rank_in place base span p
  unfolding rank_in
  rank_in_lem e q r = rw q at r ∙ sym (pick_true _ _ e)

-- the answers of a part are those of its rows in the whole: outside of the part there is none
pub part_rank : {span : ℕ} {rows : List ℕ} (place : ℕ → Place) (base p : ℕ) → Rising 0 span rows → ((q : ℕ) → place q ≡ place_of rows q) → rank_in place base span p ≡ rank_or_none (place_of (shift base rows) p)
unfolding rank_or_none place_of
part_rank {span} {rows} place base p r e =
    ⊎_elim
    (λ t.
    let whole : base + (p - base) ≡ p = omega (arith, lies_from base span p t) in
    sym (rank_in_lem place base span p t (sym (e (p - base) ∙ sym (place_shift base rows (p - base)))) refl) ∙ rw whole)
    (λ f. sym (rank_out place base span p f) ∙ sym (pick_false _ _ (has_outside (shift_rising base r) p (λ w. never (lies base span p (omega (arith, w.0)) w.1) f))))
    (either (lies_in base span p))
