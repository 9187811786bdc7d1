-- The table filled entry by entry, and what an answer's count means for the body, the table and what is left in it.
-- Assumes nothing.
use mathlib.Core.Path.{◌≡◌, refl, sym, ap, ◌∙◌}
use mathlib.Core.Bool.{true, false}
use mathlib.Core.Logic.{⊎_elim}
use mathlib.Core.List.{List, [], ◌∷◌}
use Prim.Native.Nat.{ℕ, zero, suc, ◌+◌, ◌*◌, ◌<◌, ◌≤◌}
use native.Mathlib.Numerals.{add-one}
use native.Mathlib.Omega.{arith}
use lib.ListN.{length, set, length-set}
use borrow.Author.Tests.{eq-eqb, ne_eqb, le-leb, lt-leb}
use Rattle.model.specs.Tests.{tabulate}
use Rattle.model.specs.Answers.{Answer, accepted, refused, over}
use Rattle.model.proofs.Tests.{either, order, same_or_not, pick_true, pick_false, length-tabulate}
use Rattle.model.proofs.Answers.{same_number}
use Rattle.model.proofs.Writing.{over-next}
use Rattle.directory.specs.Directory.{stated_segments, entry_of}
use Rattle.directory.specs.declared.Segment.{Segment}
use Rattle.segmented.proofs.Named.{directory_of}
use Rattle.bodies.specs.Bodies.{accepts}
use Rattle.bodies.proofs.Laws.{nine}
use Rattle.rowset.proofs.Asking.{refuses, answers}
use Rattle.tables.specs.Tables.{entries_of, segments_answer, segments_left, written_in}

-- ---- one place at a time

-- the table with its first n places filled
unfoldable pub fill_to : List ℕ → ℕ → List Segment → List Segment
fill_to xs zero old = old
fill_to xs (suc i) old = set (fill_to xs i old) i (entry_of xs i)

pub fill_none : (xs : List ℕ) (old : List Segment) → fill_to xs 0 old ≡ old
unfolding fill_to
fill_none xs old = refl

pub fill_next : (xs : List ℕ) (i : ℕ) (old : List Segment) → set (fill_to xs i old) i (entry_of xs i) ≡ fill_to xs (i + 1) old
unfolding fill_to
fill_next xs i old = sym (ap (λ (k : ℕ). fill_to xs k old) (add-one i))

pub fill_length : (xs : List ℕ) (i : ℕ) (old : List Segment) → length (fill_to xs i old) ≡ length old
unfolding fill_to
fill_length xs zero old = refl
fill_length xs (suc i) old = length-set (fill_to xs i old) i (entry_of xs i) ∙ fill_length xs i old

pub fill_over : (xs : List ℕ) (n : ℕ) (old : List Segment) → n ≤ length old → fill_to xs n old ≡ over (tabulate (entry_of xs) n) old
unfolding fill_to tabulate over
fill_over xs zero old h = refl
fill_over xs (suc i) old h =
    ap (λ (l : List Segment). set l i (entry_of xs i)) (fill_over xs i old (omega arith))
    ∙ over-next (tabulate (entry_of xs) i) old i (entry_of xs i) (length-tabulate (entry_of xs) i) h

-- ---- the entries by tag

pub entries_nine : (tag : ℕ) (xs : List ℕ) → tag ≡ 9 → entries_of tag xs ≡ tabulate (entry_of xs) (stated_segments xs)
unfolding entries_of
entries_nine tag xs e = pick_true _ _ (eq-eqb tag 9 e)

pub entries_other : (tag : ℕ) (xs : List ℕ) → (tag ≡ 9 → ⊥) → entries_of tag xs ≡ []
unfolding entries_of
entries_other tag xs n = pick_false _ _ (ne_eqb tag 9 n)

pub entries_count : (tag : ℕ) (xs : List ℕ) → tag ≡ 9 → length (entries_of tag xs) ≡ stated_segments xs
entries_count tag xs e = ap length (entries_nine tag xs e) ∙ length-tabulate (entry_of xs) (stated_segments xs)

pub entries_none : (tag : ℕ) (xs : List ℕ) → (tag ≡ 9 → ⊥) → length (entries_of tag xs) ≡ 0
entries_none tag xs n = ap length (entries_other tag xs n)

-- ---- what is decided with no store

-- a refusal's number is not 0
refused_not : {a : Answer} (k : ℕ) → refused (suc k) ≡ a → a.number ≡ 0 → ⊥
refused_not k e z = let q : suc k ≡ 0 = same_number e ∙ z in omega arith

module _ (tag span : ℕ) (xs : List ℕ) where
  pub answer_refused : (room : ℕ) → accepts tag span xs ≡ false → refused 8 ≡ segments_answer tag span xs room
  unfolding segments_answer
  answer_refused room bad = refuses tag span xs _ bad

  pub answer_short : {n : ℕ} (room : ℕ) → accepts tag span xs ≡ true → n ≡ length (entries_of tag xs) → room < n → refused 7 ≡ segments_answer tag span xs room
  unfolding segments_answer
  answer_short {n} room ok e h = answers tag span xs ok (sym (pick_false _ _ (lt-leb (length (entries_of tag xs)) room (omega arith))))

  pub answer_written : {n : ℕ} (room : ℕ) → accepts tag span xs ≡ true → n ≡ length (entries_of tag xs) → n ≤ room → accepted (n ∷ []) ≡ segments_answer tag span xs room
  unfolding segments_answer
  answer_written {n} room ok e h =
      answers tag span xs ok (ap (λ (m : ℕ). accepted (m ∷ [])) e ∙ sym (pick_true _ _ (le-leb (length (entries_of tag xs)) room (omega arith))))

-- ---- what the count in an answer means

-- the entries that it counts lie in the body and in the table, and the table filled up to it is what the call leaves
pub record Counted (tag span : ℕ) (xs : List ℕ) (old : List Segment) (n : ℕ) : Type 0 where
  pub inside : (i : ℕ) → i < n → (4 + 16 * n ≤ length xs) × (i < length old)
  pub left : fill_to xs n old ≡ segments_left tag span xs old

module _ (tag span : ℕ) (xs : List ℕ) (old : List Segment) where
  left_refused : accepts tag span xs ≡ false → segments_left tag span xs old ≡ old
  unfolding segments_left
  left_refused bad = pick_false _ _ bad

  left_short : accepts tag span xs ≡ true → length old < length (entries_of tag xs) → segments_left tag span xs old ≡ old
  unfolding segments_left
  left_short ok h = pick_true _ _ ok ∙ pick_false _ _ (lt-leb _ _ h)

  left_filled : accepts tag span xs ≡ true → length (entries_of tag xs) ≤ length old → segments_left tag span xs old ≡ over (entries_of tag xs) old
  unfolding segments_left
  left_filled ok h = pick_true _ _ ok ∙ pick_true _ _ (le-leb _ _ h)

  -- the call is refused, writes nothing and leaves the table; or the body is accepted, there is room, and the entries are written
  pub by_case : {X : Type 0} → (((segments_answer tag span xs (length old)).number ≡ 0 → ⊥) → written_in (segments_answer tag span xs (length old)) ≡ 0 → segments_left tag span xs old ≡ old → X)
      → (accepts tag span xs ≡ true → length (entries_of tag xs) ≤ length old → written_in (segments_answer tag span xs (length old)) ≡ length (entries_of tag xs)
      → segments_left tag span xs old ≡ over (entries_of tag xs) old → X) → X
  unfolding written_in
  by_case stays fills =
      ⊎_elim
      (λ (ok : accepts tag span xs ≡ true).
      ⊎_elim
      (λ (h : length old < length (entries_of tag xs)).
      let e = answer_short tag span xs (length old) ok refl h in stays (refused_not 6 e) (ap written_in (sym e)) (left_short ok h))
      (λ (h : length (entries_of tag xs) ≤ length old). fills ok h (ap written_in (sym (answer_written tag span xs (length old) ok refl h))) (left_filled ok h))
      (order (length old) (length (entries_of tag xs))))
      (λ (bad : accepts tag span xs ≡ false).
      let e = answer_refused tag span xs (length old) bad in stays (refused_not 7 e) (ap written_in (sym e)) (left_refused bad))
      (either (accepts tag span xs))

  counted_none : {n : ℕ} → n ≡ 0 → segments_left tag span xs old ≡ old → Counted tag span xs old n
  counted_none z e = record { inside = λ i l. absurd (omega arith); left = ap (λ (m : ℕ). fill_to xs m old) z ∙ fill_none xs old ∙ sym e }

  counted_nine : {n : ℕ} → accepts tag span xs ≡ true → tag ≡ 9 → length (entries_of tag xs) ≤ length old → n ≡ length (entries_of tag xs)
      → segments_left tag span xs old ≡ over (entries_of tag xs) old → Counted tag span xs old n
  counted_nine {n} ok e h q w =
      let m : n ≡ stated_segments xs = q ∙ entries_count tag xs e in
      record {
        inside = λ i l. (omega (arith, (directory_of span xs (nine tag span xs ok e)).room), omega arith);
        left = fill_over xs n old (omega arith) ∙ rw (m, ← entries_nine tag xs e) (sym w);
      }

  counted_other : {n : ℕ} → (tag ≡ 9 → ⊥) → n ≡ length (entries_of tag xs) → segments_left tag span xs old ≡ over (entries_of tag xs) old → Counted tag span xs old n
  unfolding over
  counted_other o q w = counted_none (q ∙ entries_none tag xs o) (w ∙ ap (λ (l : List Segment). over l old) (entries_other tag xs o))

  pub counted_is : {n : ℕ} → n ≡ written_in (segments_answer tag span xs (length old)) → Counted tag span xs old n
  counted_is q =
      by_case
      (λ r z e. counted_none (q ∙ z) e)
      (λ ok h k w. ⊎_elim (λ t. counted_nine ok t h (q ∙ k) w) (λ o. counted_other o (q ∙ k) w) (same_or_not tag 9))
