-- The local layouts by tag.
-- Assumes nothing.
use mathlib.Core.Path.{◌≡◌, ◌∙◌}
use mathlib.Core.Bool.{Bool}
use mathlib.Core.List.{List, []}
use Prim.Native.Nat.{ℕ, ◌+◌, ◌≤◌}
use mathlib.Core.Logic.{⊎_elim}
use native.Mathlib.Omega.{arith}
use lib.Dec.{eqb}
use lib.ListN.{length}
use borrow.Author.Tests.{ne_eqb}
use Rattle.fields.specs.Le.{width_of}
use Rattle.model.specs.Tests.{pick}
use Rattle.model.proofs.Tests.{either, pick_true, pick_false}
use Rattle.model.specs.Lists.{Rising, positions_of}
use Rattle.model.proofs.Rising.{rising_wider}
use Rattle.lists.specs.Lists.{list_layout}
use Rattle.missing.specs.Missing.{missing_layout}
use Rattle.runs.specs.Runs.{runs_layout}
use Rattle.bitmap.specs.Body.{bitmap_layout, bitmap_length}
use Rattle.bitmap.proofs.Laying.{laid_length}
use Rattle.emit.specs.Written.{Written}
use Rattle.emit.proofs.Passing.{positions_below}
use Rattle.forms.specs.Forms.{list_tag, runs_tag, by_tag, local_layout}
use Rattle.forms.proofs.Laid.{list_layout_lem, runs_layout_lem}

module _ {tag : ℕ} (span : ℕ) (rows : List ℕ) where
  pub local_list : (wide : Bool) → tag ≡ list_tag wide → local_layout tag span rows ≡ list_layout (width_of wide) rows
  local_list wide e = rw e (list_layout_lem wide span rows)

  pub local_runs : (wide : Bool) → tag ≡ runs_tag wide → local_layout tag span rows ≡ runs_layout (width_of wide) rows
  local_runs wide e = rw e (runs_layout_lem wide span rows)

  pub local_bitmap : tag ≡ 6 → local_layout tag span rows ≡ bitmap_layout span rows
  unfolding local_layout by_tag pick
  local_bitmap e = rw e

  pub local_missing : tag ≡ 7 → local_layout tag span rows ≡ missing_layout span rows
  unfolding local_layout by_tag pick
  local_missing e = rw e

-- dense has no bytes, and no other tag has a layout
pub local_none : (tag span : ℕ) (rows : List ℕ) → (tag ≡ 2 → ⊥) → (tag ≡ 3 → ⊥) → (tag ≡ 4 → ⊥) → (tag ≡ 5 → ⊥) → (tag ≡ 6 → ⊥) → (tag ≡ 7 → ⊥) → local_layout tag span rows ≡ []
unfolding local_layout by_tag
local_none tag span rows a b c d e f =
    ⊎_elim (λ t. pick_true _ _ t)
    (λ t.
    pick_false _ _ t ∙ pick_false _ _ (ne_eqb tag 2 a) ∙ pick_false _ _ (ne_eqb tag 3 b) ∙ pick_false _ _ (ne_eqb tag 4 c) ∙ pick_false _ _ (ne_eqb tag 5 d)
    ∙ pick_false _ _ (ne_eqb tag 6 e) ∙ pick_false _ _ (ne_eqb tag 7 f))
    (either (eqb tag 1))

-- rows that rise in a span, as every form asks for them, and the bytes of a bitmap
pub rising_wide : {base span : ℕ} {rows : List ℕ} → span ≤ 4294967295 → Rising base (base + span) rows → Rising base (base + 4294967295) rows
rising_wide h r = rising_wider (omega arith) (omega arith) r

pub bitmap_room : (at n base span : ℕ) (rows : List ℕ) {tag : ℕ} → tag ≡ 6 → Rising base (base + span) rows → at + length (local_layout tag span (positions_of base rows)) ≤ n → at + bitmap_length span ≤ n
bitmap_room at n base span rows e r h = rw (local_bitmap span (positions_of base rows) e, laid_length span (positions_of base rows) (positions_below base span r)) at h

-- the same bytes under another name
pub room_same : (at n : ℕ) {us vs : List ℕ} → us ≡ vs → at + length us ≤ n → at + length vs ≤ n
room_same at n e h = rw e at h

pub written_same : {us vs xs ys : List ℕ} {at r : ℕ} → us ≡ vs → Written vs at xs ys r → Written us at xs ys r
written_same e w = rw e w
