-- What an accepted body with one local form names, and that its readers answer that list.
-- Assumes nothing.
use Rattle.std.proofs.Common.{◌≡◌, ℕ, ◌+◌, ◌-◌, ◌<◌, ◌≤◌, true, List, length, get_or, sym, ◌∙◌, ⊎_elim, mod-eq_of_lt, arith, length-drop, le-ltb, lt-ltb, leb-true}
use Rattle.fields.specs.Le.{Bytes}
use Rattle.fields.proofs.Laws.{bytes_tail}
use Rattle.model.specs.Lists.{Rising, place_of, shift, walk_of}
use Rattle.model.proofs.Tests.{order, both_left, both_right, pick_true, pick_false}
use Rattle.model.proofs.Rising.{rising_below}
use Rattle.model.proofs.Standing.{place_before}
use Rattle.model.proofs.Append.{place_shift, shift_rising, length_shift, get_or-shift}
use Rattle.model.proofs.Writing.{moved_walk}
use Rattle.model.specs.Answers.{ranks_of, ranks_in}
use Rattle.model.proofs.Ranking.{map_same, part_rank}
use Rattle.model.proofs.Counted.{Count, counted_count}
use Rattle.forms.specs.Forms.{local_accepts, local_place}
use Rattle.forms.proofs.Laws.{local_sized_lem, local_counted, local_rising, local_length, local_place_lem, local_select_lem, local_walk_lem}
use Rattle.single.specs.Single.{header_of, view_of, named_in, part_in, ends_ok, view_accepts, single_accepts, single_names, Readable, view_place, view_select, view_walk}
use Rattle.single.specs.declared.View.{View}
use Rattle.single.proofs.Laws.{starts}

-- what an accepted view is made of
pub record Parts (v : View) (span : ℕ) (xs : List ℕ) : Type 0 where
  pub room : v.offset ≤ length xs
  pub inside : v.base + v.span ≤ span
  pub local : local_accepts v.form (part_in v xs) v.span v.count ≡ true
  pub ends : ends_ok v xs ≡ true

pub view_parts : (v : View) (span : ℕ) (xs : List ℕ) → view_accepts v span xs ≡ true → Parts v span xs
unfolding view_accepts
view_parts v span xs ok =
    let rest = both_right _ _ ok in
    let local = both_right _ _ rest in
    record { room = leb-true _ _ (both_left _ _ ok); inside = leb-true _ _ (both_left _ _ rest); local = both_left _ _ local; ends = both_right _ _ local }

pub single_parts : (tag span : ℕ) (xs : List ℕ) → single_accepts tag span xs ≡ true → Parts (view_of tag span xs) span xs
unfolding single_accepts
single_parts tag span xs ok = view_parts (view_of tag span xs) span xs (both_right _ _ ok)

local_place-named : (v : View) (xs : List ℕ) → local_accepts v.form (part_in v xs) v.span v.count ≡ true → Bytes (part_in v xs) → (q : ℕ) → local_place v.form (part_in v xs) v.span v.count q ≡ place_of (named_in v xs) q
unfolding named_in
local_place-named v xs ok b q = local_place_lem v.form (part_in v xs) v.span v.count ok b q

module _ (v : View) (span : ℕ) (xs : List ℕ) (p : Parts v span xs) where
  pub parts_readable : Readable v xs
  parts_readable = record { room = p.room; sized = rw (length-drop v.offset xs) at (local_sized_lem v.form (part_in v xs) v.span v.count p.local) }

  pub parts_count : Count v.span v.count
  parts_count = counted_count _ _ (local_counted v.form (part_in v xs) v.span v.count p.local)

  module _ (bytes : Bytes xs) where
    part_bytes : Bytes (part_in v xs)
    part_bytes = bytes_tail xs v.offset bytes

    -- T3, counted from the base and from 0
    pub named_rising : Rising 0 v.span (named_in v xs)
    unfolding named_in
    named_rising = local_rising v.form (part_in v xs) v.span v.count p.local part_bytes

    pub named-length : length (named_in v xs) ≡ v.count
    unfolding named_in
    named-length = local_length v.form (part_in v xs) v.span v.count p.local part_bytes

    pub whole_rising : Rising v.base (v.base + v.span) (shift v.base (named_in v xs))
    whole_rising = let e : v.base + 0 ≡ v.base = omega arith in rw e at (shift_rising v.base named_rising)

    pub whole_length : length (shift v.base (named_in v xs)) ≡ v.count
    whole_length = length_shift v.base (named_in v xs) ∙ named-length

    -- T4
    pub view_place_lem : (q : ℕ) → view_place v xs q ≡ place_of (shift v.base (named_in v xs)) q
    unfolding view_place
    view_place_lem q =
        ⊎_elim
        (λ l. pick_true _ _ (lt-ltb q v.base l) ∙ sym (place_before whole_rising q l))
        (λ g. pick_false _ _ (le-ltb q v.base g) ∙ asked ∙ sym (shifted g))
        (order q v.base)
      where
        asked : local_place v.form (part_in v xs) v.span v.count (q - v.base) ≡ place_of (named_in v xs) (q - v.base)
        asked = local_place-named v xs p.local part_bytes (q - v.base)

        shifted : v.base ≤ q → place_of (shift v.base (named_in v xs)) q ≡ place_of (named_in v xs) (q - v.base)
        shifted g =
            let e : v.base + (q - v.base) ≡ q = omega arith in
            rw e at (place_shift v.base (named_in v xs) (q - v.base))

    view_ranks : (ps : List ℕ) → ranks_in (local_place v.form (part_in v xs) v.span v.count) v.base v.span ps ≡ ranks_of (shift v.base (named_in v xs)) ps
    unfolding ranks_of
    view_ranks ps = map_same (λ q. part_rank (local_place v.form (part_in v xs) v.span v.count) v.base q named_rising (local_place-named v xs p.local part_bytes)) ps

    pub view_select_lem : span < 4294967296 → (k : ℕ) → k < v.count → view_select v xs k ≡ get_or (shift v.base (named_in v xs)) k 0
    unfolding view_select named_in
    view_select_lem small k h =
        let in_list : k < length (named_in v xs) = rw named-length h in
        let fits : v.base + get_or (named_in v xs) k 0 < 4294967296 = omega (arith, rising_below named_rising k in_list, p.inside) in
        rw (local_select_lem v.form (part_in v xs) v.span v.count p.local part_bytes k h) (mod-eq_of_lt fits ∙ sym (get_or-shift v.base (named_in v xs) k in_list))

    pub view_walk_lem : span < 4294967296 → (k room : ℕ) → view_walk v xs k room ≡ walk_of (shift v.base (named_in v xs)) k room
    unfolding view_walk named_in
    view_walk_lem small k room =
        local_walk_lem v.form (part_in v xs) v.span v.count p.local part_bytes k v.base room
        ∙ moved_walk v.base (omega (arith, p.inside)) named_rising k room

-- the parts by the view that was read
pub parts_read : (tag span : ℕ) (xs : List ℕ) {v : View} → v ≡ view_of tag span xs → single_accepts tag span xs ≡ true → Parts v span xs
parts_read tag span xs q ok = rw q (single_parts tag span xs ok)

-- the ranks of the local form by the view that was read
pub single_ranks : (tag span : ℕ) (xs : List ℕ) {v : View} → v ≡ view_of tag span xs → single_accepts tag span xs ≡ true → Bytes xs → (ps : List ℕ)
    → ranks_in (local_place v.form (part_in v xs) v.span v.count) v.base v.span ps ≡ ranks_of (single_names tag span xs) ps
unfolding single_names
single_ranks tag span xs q ok b ps = rw q (view_ranks (view_of tag span xs) span xs (single_parts tag span xs ok) b ps)

-- the header of an accepted body is there
pub accepted_header : (tag span : ℕ) (xs : List ℕ) → single_accepts tag span xs ≡ true → header_of tag ≤ length xs
accepted_header tag span xs ok = omega (arith, starts tag span xs, (single_parts tag span xs ok).room)
