-- Demand 3: one list per body.
-- Assumes nothing.
use mathlib.Core.Path.{◌≡◌, refl, sym, ap, ◌∙◌}
use mathlib.Core.Bool.{true}
use mathlib.Core.List.{List}
use Prim.Native.Nat.{ℕ, ◌-◌, ◌<◌}
use native.Mathlib.Nat.{le_refl}
use native.Mathlib.Omega.{arith}
use lib.Dec.{eqb}
use lib.ListN.{length, get_or}
use lib.Seq.{ext_get_or}
use borrow.Author.Tests.{le-leb}
use Rattle.fields.specs.Le.{Bytes}
use Rattle.model.specs.Lists.{positions_of, shift}
use Rattle.model.specs.Answers.{Answer}
use Rattle.model.proofs.Tests.{pick_true}
use Rattle.model.proofs.Standing.{select_is}
use Rattle.single.specs.Single.{view_of}
use Rattle.bodies.specs.Bodies.{accepts, names}
use Rattle.rowset.specs.Calls.{validate_of, rank_answer, ranks_answer, ranks_left, select_answer, walk_answer, walk_left}
use Rattle.rowset.proofs.Asking.{answers}
use Rattle.bodies.proofs.Laws.{names_few}
use Rattle.bodies.proofs.Named.{names_rising, names_some, no_second_body}
use Rattle.model.proofs.Positions.{positions_back}
use Rattle.planning.specs.Planning.{plan_of, plan_out}
use Rattle.planning.proofs.Accepted.{plan_divided, plan_number_lem}
use Rattle.demands.specs.Demands.{tag_in, body_in, Named}
use Rattle.demands.proofs.BodyToRows.{bitmap_flag}
use Rattle.demands.proofs.Two.{plan_holds}

-- ---- plans: two that are accepted over coverages of equal span, with any seeds, limits, workspaces and outputs, give the same tag and
-- body only if they hold the same rows counted from their starts

module _ (start end : ℕ) (rows seeds : List ℕ) (limit words : ℕ) (out : List ℕ) (start' end' : ℕ) (rows' seeds' : List ℕ) (limit' words' : ℕ) (out' : List ℕ) where
  abbrev one : Answer
  one = plan_of start end rows seeds limit words (length out)

  abbrev other : Answer
  other = plan_of start' end' rows' seeds' limit' words' (length out')

  pub plans_apart : one.number ≡ 0 → other.number ≡ 0 → end - start ≡ end' - start' → tag_in one ≡ tag_in other
      → body_in one (plan_out start end rows seeds limit words out) ≡ body_in other (plan_out start' end' rows' seeds' limit' words' out')
      → positions_of start rows ≡ positions_of start' rows'
  plans_apart ok ok' span tag body =
      sym (plan_holds start end rows seeds limit words out ok).named
      ∙ rw (span, tag, body) (plan_holds start' end' rows' seeds' limit' words' out' ok').named

  -- and so from equal starts they hold the same rows
  pub same_rows : one.number ≡ 0 → other.number ≡ 0 → end - start ≡ end' - start' → tag_in one ≡ tag_in other
      → body_in one (plan_out start end rows seeds limit words out) ≡ body_in other (plan_out start' end' rows' seeds' limit' words' out')
      → start ≡ start' → rows ≡ rows'
  same_rows ok ok' span tag body e =
      let d = plan_divided start end rows seeds limit words (length out) (sym (plan_number_lem start end rows seeds limit words (length out)) ∙ ok) in
      let d' = plan_divided start' end' rows' seeds' limit' words' (length out') (sym (plan_number_lem start' end' rows' seeds' limit' words' (length out')) ∙ ok') in
      positions_back start (le_refl start) d.rising
      ∙ ap (λ (xs : List ℕ). shift start xs) (plans_apart ok ok' span tag body)
      ∙ ap (λ (b : ℕ). shift b (positions_of start' rows')) e
      ∙ sym (positions_back start' (le_refl start') d'.rising)

-- ---- bodies

module _ (tag span : ℕ) (body : List ℕ) (ok : accepts tag span body ≡ true) (bytes : Bytes body) where
  -- each accepted body, from any writer, names a list
  pub names-one : Named tag span body (names tag span body)
  unfolding validate_of rank_answer ranks_answer ranks_left select_answer walk_answer walk_left
  names-one = record {
    held = record { rising = names_rising tag span body ok bytes; some = names_some tag span body ok bytes; most = names_few tag span body ok bytes };
    counts = sym (answers tag span body ok refl);
    ranks = λ p. sym (answers tag span body ok refl);
    many = λ ps old h.
        (sym (answers tag span body ok (sym (pick_true _ _ (le-leb (length ps) (length old) h)))), pick_true _ _ ok ∙ pick_true _ _ (le-leb (length ps) (length old) h));
    selects = λ k. sym (answers tag span body ok refl);
    walks = λ k old. (sym (answers tag span body ok refl), pick_true _ _ ok);
  }

  -- and no other
  pub names_only : (rows : List ℕ) → Named tag span body rows → rows ≡ names tag span body
  names_only rows n =
      let size : length rows ≡ length (names tag span body) = ap (λ (a : Answer). get_or a.values 0 0) (sym n.counts ∙ names-one.counts) in
      ext_get_or 0 rows (names tag span body) size (λ i h. at i h (omega arith))
    where
      at : (i : ℕ) → i < length rows → i < length (names tag span body) → get_or rows i 0 ≡ get_or (names tag span body) i 0
      at i h l =
          ap (λ (vs : List ℕ). get_or vs 0 0)
          (sym (select_is rows i h) ∙ ap (λ (a : Answer). a.values) (sym (n.selects i) ∙ names-one.selects i) ∙ select_is (names tag span body) i l)

-- ---- leaving out the segmented tag, and holding a bitmap's plain and trimmed forms (its flag byte) apart, no second accepted body of
-- that tag and span names it

pub one_body : (tag span : ℕ) (xs ys : List ℕ) → (tag ≡ 9 → ⊥) → accepts tag span xs ≡ true → accepts tag span ys ≡ true → Bytes xs → Bytes ys
    → (tag ≡ 6 → get_or xs 2 0 ≡ get_or ys 2 0) → (rows : List ℕ) → Named tag span xs rows → Named tag span ys rows → xs ≡ ys
one_body tag span xs ys n ok ok' b b' flag rows p q =
    no_second_body tag span xs ys n ok ok' b b' trimmed (sym (names_only tag span xs ok b rows p) ∙ names_only tag span ys ok' b' rows q)
  where
    trimmed : tag ≡ 6 → (view_of tag span xs).trimmed ≡ (view_of tag span ys).trimmed
    trimmed e = rw e (bitmap_flag span xs b (rw e at ok) ∙ ap (λ (x : ℕ). eqb x 1) (flag e) ∙ sym (bitmap_flag span ys b' (rw e at ok')))
