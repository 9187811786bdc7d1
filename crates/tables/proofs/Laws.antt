-- What the contract of `segments` says: one result, the records that are asked for one by one, and nothing else changed.
-- Assumes nothing.
use mathlib.Core.Path.{◌≡◌, sym, ap, ◌∙◌}
use mathlib.Core.Bool.{true}
use mathlib.Core.Logic.{⊎_elim}
use mathlib.Core.List.{List, []}
use Prim.Native.Nat.{ℕ, ◌<◌, ◌≤◌}
use native.Mathlib.Omega.{arith}
use lib.ListN.{length, get_or, drop, get_or-append}
use borrow.Author.Tests.{eq-eqb, ne_eqb, lt-ltb, le-ltb}
use Rattle.model.specs.Answers.{accepted, over}
use Rattle.model.proofs.Tests.{same_or_not, pick_true, pick_false, get_or-tabulate}
use Rattle.model.proofs.Writing.{over-drop}
use Rattle.directory.specs.Directory.{stated_segments, entry_of}
use Rattle.directory.specs.declared.Segment.{Segment}
use Rattle.bodies.specs.Bodies.{accepts}
use Rattle.rowset.specs.Calls.{filled_of, values_of, segment_answer}
use Rattle.std.specs.Prelude.{Result}
use Rattle.model.specs.declared.refusal.Refusal.{Refusal}
use Rattle.rowset.proofs.Asking.{answers}
use Rattle.rowset.proofs.Same.{filled_same}
use Rattle.tables.specs.Tables.{entries_of, segments_answer, segments_left, written_in}
use Rattle.tables.proofs.Filling.{entries_nine, entries_count, entries_none, by_case}

module _ (tag span : ℕ) (xs : List ℕ) (old : List Segment) where
  -- two results that meet the contract are equal, the answer and the table
  pub segments_same : (a b : Result ℕ Refusal) (s t : List Segment) → filled_of a ≡ segments_answer tag span xs (length old) → filled_of b ≡ segments_answer tag span xs (length old)
      → s ≡ segments_left tag span xs old → t ≡ segments_left tag span xs old → (a ≡ b) × (s ≡ t)
  segments_same a b s t p q u v = (filled_same a b (p ∙ sym q), u ∙ sym v)

  -- ---- one by one

  -- entry i of an accepted body, as `rowset::segment` answers it
  entry_answer_lem : {i : ℕ} → accepts tag span xs ≡ true → tag ≡ 9 → i < stated_segments xs → segment_answer tag span xs i ≡ accepted (values_of (entry_of xs i))
  unfolding segment_answer
  entry_answer_lem {i} ok e l = sym (answers tag span xs ok (ap accepted (sym (pick_true _ _ (eq-eqb tag 9 e) ∙ pick_true _ _ (lt-ltb i (stated_segments xs) l)))))

  over_at : {i : ℕ} (d : Segment) → tag ≡ 9 → i < stated_segments xs → get_or (over (entries_of tag xs) old) i d ≡ entry_of xs i
  unfolding over
  over_at {i} d e l =
      get_or-append (entries_of tag xs) (drop (length (entries_of tag xs)) old) d i (omega (arith, entries_count tag xs e))
      ∙ rw (entries_nine tag xs e) (get_or-tabulate (entry_of xs) (stated_segments xs) i d l)

  -- record i of those that were written is what `rowset::segment` answers for i
  pub segments_each : (i : ℕ) (d : Segment) → i < written_in (segments_answer tag span xs (length old)) → segment_answer tag span xs i ≡ accepted (values_of (get_or (segments_left tag span xs old) i d))
  segments_each i d l =
      by_case tag span xs old
      (λ r z e. absurd (omega arith))
      (λ ok h k w.
      ⊎_elim
      (λ (t : tag ≡ 9).
      let m : i < stated_segments xs = omega (arith, entries_count tag xs t) in
      entry_answer_lem ok t m ∙ ap (λ (s : Segment). accepted (values_of s)) (sym (ap (λ (ys : List Segment). get_or ys i d) w ∙ over_at d t m)))
      (λ (o : tag ≡ 9 → ⊥). absurd (omega (arith, entries_none tag xs o)))
      (same_or_not tag 9))

  -- where the call is not refused, `rowset::segment` has nothing past them
  pub segments_all : (i : ℕ) → (segments_answer tag span xs (length old)).number ≡ 0 → written_in (segments_answer tag span xs (length old)) ≤ i → segment_answer tag span xs i ≡ accepted []
  unfolding segment_answer
  segments_all i taken h =
      by_case tag span xs old
      (λ r z e. absurd (r taken))
      (λ ok g k w.
      sym (answers tag span xs ok
      (ap accepted
      (⊎_elim
      (λ (t : tag ≡ 9). sym (pick_true _ _ (eq-eqb tag 9 t) ∙ pick_false _ _ (le-ltb i (stated_segments xs) (omega (arith, entries_count tag xs t)))))
      (λ (o : tag ≡ 9 → ⊥). sym (pick_false _ _ (ne_eqb tag 9 o)))
      (same_or_not tag 9)))))

  -- the records past those that were written stay
  pub segments_rest : drop (written_in (segments_answer tag span xs (length old))) (segments_left tag span xs old) ≡ drop (written_in (segments_answer tag span xs (length old))) old
  segments_rest =
      by_case tag span xs old
      (λ r z e. rw e)
      (λ ok h k w. rw (k, w) (over-drop (entries_of tag xs) old))
