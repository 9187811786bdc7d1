-- One segment: its tag, its rows counted from the first, and the bytes of its cheapest local form.
-- Assumes nothing.
use mathlib.Core.Path.{◌≡◌, refl, sym}
use mathlib.Core.Bool.{true}
use mathlib.Core.List.{List}
use Prim.Native.Nat.{ℕ, suc, ◌+◌, ◌-◌, ◌<◌, ◌≤◌}
use native.Mathlib.Omega.{arith}
use lib.ListN.{length, get_or}
use Rattle.model.specs.Tests.{pick}
use Rattle.model.specs.Lists.{Rising, shift, positions_of}
use Rattle.model.proofs.Rising.{rising_room, rising_ends}
use Rattle.model.proofs.Positions.{length_positions, positions_back}
use Rattle.model.proofs.Counted.{Count}
use Rattle.single.specs.Layout.{first_of, extent_of}
use Rattle.directory.specs.Directory.{is_local}
use Rattle.stats.specs.declared.Stats.{Stats}
use Rattle.stats.specs.Statistics.{stats_of}
use Rattle.stats.proofs.Joining.{reach}
use Rattle.cost.specs.declared.Form.{Form}
use Rattle.cost.specs.Forms.{items_form, bitmap_form, dense_form, local_form}
use Rattle.cost.proofs.Layouts.{own_rising}
use Rattle.cost.proofs.Chosen.{Local, dense, list, runs, missing, bitmap, local_chosen}
use Rattle.cost.proofs.Stated.{stated_local, extent_span, own_is}
use Rattle.planning.specs.Bodies.{tag_of, payload_of}

-- ---- the tag

each_tag : {s : Stats} (f : Form) → Local s f → (is_local f.tag ≡ true) × (f.tag < 256)
unfolding dense_form items_form bitmap_form is_local pick
each_tag _ (dense e) = (refl, omega arith)
each_tag _ list = (refl, omega arith)
each_tag _ runs = (refl, omega arith)
each_tag _ missing = (refl, omega arith)
each_tag _ bitmap = (refl, omega arith)

module _ (seg : List ℕ) where
  pub tag_local : is_local (tag_of seg) ≡ true
  unfolding tag_of
  tag_local = (each_tag (local_form (stats_of seg)) (local_chosen (stats_of seg))).0

  pub tag_small : tag_of seg < 256
  unfolding tag_of
  tag_small = (each_tag (local_form (stats_of seg)) (local_chosen (stats_of seg))).1

-- ---- the rows counted from the first

module _ {a b : ℕ} {seg : List ℕ} (r : Rising a b seg) (some : 1 ≤ length seg) where
  pub extent_end : first_of seg + extent_of seg ≡ suc (get_or seg (length seg - 1) 0)
  unfolding first_of extent_of
  extent_end = omega (arith, reach r some)

  pub own_rises : Rising 0 (extent_of seg) (positions_of (first_of seg) seg)
  own_rises = rw (extent_span seg r some, own_is seg) (own_rising seg r)

  pub own_back : shift (first_of seg) (positions_of (first_of seg) seg) ≡ seg
  unfolding first_of
  own_back = sym (positions_back (get_or seg 0 0) (omega arith) (rising_ends r refl))

  pub payload_size : length (payload_of seg) ≡ (local_form (stats_of seg)).bytes
  unfolding payload_of tag_of
  payload_size = rw (extent_span seg r some, own_is seg) (sym (stated_local seg r))

  pub own_count : length seg ≤ 65535 → Count (extent_of seg) (length seg)
  own_count few = record { some = some; within = omega (arith, rising_room (omega arith) own_rises, length_positions (first_of seg) seg); most = few }

  -- where the cheapest form is dense every position is a row
  module _ (few : length seg ≤ 65535) where
    each_full : (f : Form) → Local (stats_of seg) f → f.tag ≡ 1 → length (positions_of (first_of seg) seg) ≡ extent_of seg
    unfolding dense_form items_form bitmap_form stats_of
    each_full _ (dense e) t = omega (arith, extent_span seg r some, (own_count few).within, length_positions (first_of seg) seg)
    each_full _ list t = absurd (omega arith)
    each_full _ runs t = absurd (omega arith)
    each_full _ missing t = absurd (omega arith)
    each_full _ bitmap t = absurd (omega arith)

    pub own_full : tag_of seg ≡ 1 → length (positions_of (first_of seg) seg) ≡ extent_of seg
    unfolding tag_of
    own_full = each_full (local_form (stats_of seg)) (local_chosen (stats_of seg))
