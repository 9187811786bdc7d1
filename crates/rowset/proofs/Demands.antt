-- What document 01 demands of reading, of every tag: rank and select undo each other on the list that an accepted body names, and a
-- walk is the selects in order.
-- Assumes nothing.
use mathlib.Core.Path.{◌≡◌, sym, ap, ◌∙◌}
use mathlib.Core.Bool.{true}
use mathlib.Core.List.{List, [], ◌∷◌}
use Prim.Native.Nat.{ℕ, ◌+◌, ◌-◌, ◌<◌, min}
use native.Mathlib.Omega.{arith}
use lib.ListN.{length, get_or, drop, length-take, length-drop}
use lib.Seq.{get_or-take, get_or-drop}
use Rattle.fields.specs.Le.{Bytes}
use Rattle.model.specs.Lists.{below, has, walk_of}
use Rattle.model.specs.Answers.{accepted}
use Rattle.model.proofs.Standing.{select_is, rank_is, rank_select, select_rank}
use Rattle.bodies.specs.Bodies.{accepts, names}
use Rattle.rowset.specs.Calls.{rank_answer, select_answer}
use Rattle.bodies.proofs.Named.{names_rising}
use Rattle.rowset.proofs.Asking.{answers}

module _ (tag span : ℕ) (xs : List ℕ) (ok : accepts tag span xs ≡ true) (bytes : Bytes xs) where
  -- ---- rank and select

  -- the rank of what select answers for ordinal k is k
  pub rank_of_select : (k : ℕ) → k < length (names tag span xs)
      → (select_answer tag span xs k ≡ accepted (get_or (names tag span xs) k 0 ∷ [])) × (rank_answer tag span xs (get_or (names tag span xs) k 0) ≡ accepted (k ∷ []))
  unfolding select_answer rank_answer
  rank_of_select k h =
      (sym (answers tag span xs ok (ap accepted (sym (select_is (names tag span xs) k h)))), sym (answers tag span xs ok (ap accepted (sym (rank_select (names_rising tag span xs ok bytes) k h)))))

  -- what select answers for the rank of a position that is named is that position
  pub select_of_rank : (p : ℕ) → has (names tag span xs) p ≡ true
      → (rank_answer tag span xs p ≡ accepted (below (names tag span xs) p ∷ [])) × (select_answer tag span xs (below (names tag span xs) p) ≡ accepted (p ∷ []))
  unfolding select_answer rank_answer
  select_of_rank p h =
      (sym (answers tag span xs ok (ap accepted (sym (rank_is (names tag span xs) p h)))), sym (answers tag span xs ok (ap accepted (sym (select_rank (names_rising tag span xs ok bytes) p h)))))

  -- ---- walk: as many as fit or remain, each what select answers for its ordinal

  pub walk_length : (k room : ℕ) → length (walk_of (names tag span xs) k room) ≡ min room (length (names tag span xs) - k)
  walk_length k room = length-take room (drop k (names tag span xs)) ∙ ap (λ (n : ℕ). min room n) (length-drop k (names tag span xs))

  pub walk_as_select : (k room i : ℕ) → i < length (walk_of (names tag span xs) k room) → select_answer tag span xs (k + i) ≡ accepted (get_or (walk_of (names tag span xs) k room) i 0 ∷ [])
  unfolding select_answer
  walk_as_select k room i h =
      let m : length (walk_of (names tag span xs) k room) ≡ min room (length (names tag span xs) - k) = walk_length k room in
      let fits : i < room = omega arith in
      let left : k + i < length (names tag span xs) = omega arith in
      let same : get_or (walk_of (names tag span xs) k room) i 0 ≡ get_or (names tag span xs) (k + i) 0 = get_or-take room (drop k (names tag span xs)) i 0 fits ∙ get_or-drop k (names tag span xs) i 0 in
      sym (answers tag span xs ok (ap accepted (ap (λ (x : ℕ). x ∷ []) same ∙ sym (select_is (names tag span xs) (k + i) left))))
