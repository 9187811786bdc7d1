-- An accepted body is a segmented one or a single local form, and each reader answers the list that it names.
-- Assumes nothing.
use mathlib.Core.Path.{◌≡◌, sym, ◌∙◌}
use mathlib.Core.Bool.{true}
use mathlib.Core.Logic.{⊎_elim}
use mathlib.Core.List.{List}
use Prim.Native.Nat.{ℕ, ◌<◌, ◌≤◌}
use native.Mathlib.Omega.{arith}
use lib.ListN.{length, get_or}
use borrow.Author.Tests.{eq-eqb, ne_eqb}
use Rattle.fields.specs.Le.{Bytes}
use Rattle.model.specs.Lists.{place_of, walk_of}
use Rattle.model.specs.declared.Place.{Place}
use Rattle.model.specs.Tests.{pick}
use Rattle.model.proofs.Tests.{pick_true, pick_false, same_or_not}
use Rattle.directory.specs.Directory.{stated_count}
use Rattle.single.specs.Single.{header_of, view_of, single_accepts, single_names, Readable, view_place, view_select, view_walk}
use Rattle.single.specs.declared.View.{View}
use Rattle.single.proofs.Named.{Parts, single_parts, parts_readable, parts_count, whole_length, view_place_lem, view_select_lem, view_walk_lem, accepted_header}
use Rattle.segmented.specs.Segmented.{segmented_accepts, segmented_names}
use Rattle.segmented.proofs.Named.{directory_of, segmented_length}
use Rattle.bodies.specs.Bodies.{accepts, names}
use Rattle.bodies.proofs.Tested.{tested}

module _ (tag span : ℕ) (xs : List ℕ) where
  -- ---- which of the two it is

  pub accepts_nine : tag ≡ 9 → accepts tag span xs ≡ segmented_accepts span xs
  unfolding accepts pick
  accepts_nine e = rw e

  pub accepts_other : (tag ≡ 9 → ⊥) → accepts tag span xs ≡ single_accepts tag span xs
  accepts_other n = tested span xs tag n

  pub names_nine : tag ≡ 9 → names tag span xs ≡ segmented_names xs
  unfolding names
  names_nine e = pick_true _ _ (eq-eqb tag 9 e)

  pub names_other : (tag ≡ 9 → ⊥) → names tag span xs ≡ single_names tag span xs
  unfolding names
  names_other n = pick_false _ _ (ne_eqb tag 9 n)

  module _ (ok : accepts tag span xs ≡ true) where
    -- ---- tag 9
    module _ (e : tag ≡ 9) where
      pub nine : segmented_accepts span xs ≡ true
      nine = sym (accepts_nine e) ∙ ok

      pub nine_room : 4 ≤ length xs
      nine_room = omega (arith, (directory_of span xs nine).room)

      pub nine_count : Bytes xs → {r : ℕ} → r ≡ stated_count xs → r ≡ length (names tag span xs)
      nine_count b q = rw (names_nine e) (q ∙ sym (segmented_length span xs nine b))

      pub nine_within : Bytes xs → {k : ℕ} → k < length (names tag span xs) → k < stated_count xs
      nine_within b h = rw (names_nine e, segmented_length span xs nine b) at h

    -- ---- every other tag
    module _ (n : tag ≡ 9 → ⊥) where
      pub other : single_accepts tag span xs ≡ true
      other = sym (accepts_other n) ∙ ok

      pub other_header : header_of tag ≤ length xs
      other_header = accepted_header tag span xs other

      parts : Parts (view_of tag span xs) span xs
      parts = single_parts tag span xs other

      module _ {v : View} (q : v ≡ view_of tag span xs) where
        pub other_readable : Readable v xs
        other_readable = rw q (parts_readable (view_of tag span xs) span xs parts)

        module _ (b : Bytes xs) where
          pub other_count : v.count ≡ length (names tag span xs)
          unfolding single_names
          other_count = rw (names_other n, q) (sym (whole_length (view_of tag span xs) span xs parts b))

          pub other_place : {r : Place} (p : ℕ) → r ≡ view_place v xs p → r ≡ place_of (names tag span xs) p
          unfolding single_names
          other_place p e = rw (names_other n) (rw q at e ∙ view_place_lem (view_of tag span xs) span xs parts b p)

          pub other_select : {r : ℕ} → span < 4294967296 → (k : ℕ) → k < length (names tag span xs) → r ≡ view_select v xs k → r ≡ get_or (names tag span xs) k 0
          unfolding single_names
          other_select small k h e =
              let c : (view_of tag span xs).count ≡ length (names tag span xs) = rw q at other_count in
              rw (names_other n) (rw q at e ∙ view_select_lem (view_of tag span xs) span xs parts b small k (omega arith))

          pub other_walk : span < 4294967296 → (k room : ℕ) → view_walk v xs k room ≡ walk_of (names tag span xs) k room
          unfolding single_names
          other_walk small k room = rw (q, names_other n) (view_walk_lem (view_of tag span xs) span xs parts b small k room)

    -- ---- any tag: ordinals fit
    pub names_few : Bytes xs → length (names tag span xs) ≤ 65535
    unfolding single_names
    names_few b =
        ⊎_elim
        (λ e. rw (names_nine e, segmented_length span xs (nine e) b) (directory_of span xs (nine e)).rows.most)
        (λ n. rw (names_other n, whole_length (view_of tag span xs) span xs (parts n) b) (parts_count (view_of tag span xs) span xs (parts n)).most)
        (same_or_not tag 9)
