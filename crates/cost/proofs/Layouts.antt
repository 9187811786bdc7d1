-- The stated bytes of each form are the length of its layout, by the statistics of the rows laid out.
-- Assumes nothing.
use mathlib.Core.Path.{◌≡◌, refl, sym, ◌∙◌}
use mathlib.Core.Bool.{Bool, true, false}
use mathlib.Core.List.{List, []}
use Prim.Native.Nat.{ℕ, ◌+◌, ◌-◌, ◌*◌}
use native.Mathlib.Nat.{mul_comm, zero-add}
use native.Mathlib.Omega.{arith}
use lib.ListN.{length, get_or}
use Rattle.model.specs.Lists.{Rising, complement, runs_of, positions_of}
use Rattle.model.proofs.Complement.{complement-length}
use Rattle.model.proofs.Rising.{rising_ends}
use Rattle.lists.specs.Lists.{list_layout}
use Rattle.lists.proofs.Bytes.{length_layout}
use Rattle.runs.specs.Runs.{runs_layout}
use Rattle.runs.proofs.Laid.{length_bytes}
use Rattle.missing.specs.Missing.{missing_layout}
use Rattle.bitmap.specs.Body.{bitmap_layout, bitmap_length}
use Rattle.bitmap.proofs.Laying.{laid_length}
use Rattle.stats.specs.Statistics.{stats_of, span_of}
use Rattle.cost.specs.declared.Form.{Form}
use Rattle.cost.specs.Forms.{items_form, bitmap_form, dense_form, local_form, whole_form}
use Rattle.model.proofs.Positions.{length_positions, positions_rising, runs_positions}
use Rattle.cost.proofs.Chosen.{Local, dense, list, runs, missing, bitmap, local_chosen, Whole, list32, list16, runs16, runs32, trimmed_bitmap, trimmed_missing, whole_chosen}

-- ---- over the width, of any rows

pub list_bytes : (w : ℕ) (xs : List ℕ) → length (list_layout w xs) ≡ w * (stats_of xs).count
unfolding stats_of
list_bytes w xs = length_layout w xs ∙ mul_comm (length xs) w

pub runs_bytes_lem : (w : ℕ) (xs : List ℕ) → length (runs_layout w xs) ≡ (w + 4) * (stats_of xs).runs
unfolding stats_of runs_layout
runs_bytes_lem w xs = length_bytes w 0 (runs_of xs) ∙ mul_comm (length (runs_of xs)) (w + 4)

-- ---- of rows that rise in the span

module _ (span : ℕ) (xs : List ℕ) (rising : Rising 0 span xs) where
  pub missing_bytes : length (missing_layout span xs) ≡ 2 * (span - (stats_of xs).count)
  unfolding stats_of missing_layout
  missing_bytes = length_layout 2 (complement 0 span xs) ∙ omega (arith, complement-length (omega arith) rising)

  pub bitmap_bytes : length (bitmap_layout span xs) ≡ bitmap_length span
  bitmap_bytes = laid_length span xs rising

-- ---- a segment, its rows counted from its first

abbrev pub own_of : List ℕ → List ℕ
own_of xs = positions_of (get_or xs 0 0) xs

module _ (xs : List ℕ) {a b : ℕ} (rising : Rising a b xs) where
  abbrev first : ℕ
  first = get_or xs 0 0

  abbrev own : List ℕ
  own = own_of xs

  tight : Rising first (first + span_of (stats_of xs)) xs
  unfolding stats_of
  tight = rising_ends rising refl

  pub own_rising : Rising 0 (span_of (stats_of xs)) own
  own_rising =
      let z : first - first ≡ 0 = omega arith in
      let e : first + span_of (stats_of xs) - first ≡ span_of (stats_of xs) = omega arith in
      rw (z, e) at (positions_rising first (omega arith) tight)

  pub own_count : (stats_of own).count ≡ (stats_of xs).count
  unfolding stats_of
  own_count = length_positions first xs

  pub own_runs : (stats_of own).runs ≡ (stats_of xs).runs
  unfolding stats_of
  own_runs = runs_positions first (omega arith) tight

  -- for any layout by tag and span that is the forms' own
  module _
      (layout : ℕ → ℕ → List ℕ → List ℕ)
      (l1 : layout 1 (span_of (stats_of xs)) own ≡ [])
      (l3 : layout 3 (span_of (stats_of xs)) own ≡ list_layout 2 own)
      (l4 : layout 4 (span_of (stats_of xs)) own ≡ runs_layout 2 own)
      (l6 : layout 6 (span_of (stats_of xs)) own ≡ bitmap_layout (span_of (stats_of xs)) own)
      (l7 : layout 7 (span_of (stats_of xs)) own ≡ missing_layout (span_of (stats_of xs)) own) where
    each_local : (f : Form) → Local (stats_of xs) f → f.bytes ≡ length (layout f.tag (span_of (stats_of xs)) own)
    unfolding dense_form items_form bitmap_form
    each_local _ (dense e) = rw l1
    each_local _ list = rw l3 (sym (list_bytes 2 own ∙ rw own_count))
    each_local _ runs = rw l4 (sym (runs_bytes_lem 2 own ∙ rw own_runs))
    each_local _ missing = rw l7 (sym (missing_bytes (span_of (stats_of xs)) own own_rising ∙ rw own_count))
    each_local _ bitmap = rw (l6, zero-add) (sym (bitmap_bytes (span_of (stats_of xs)) own own_rising))

    pub local_bytes : (local_form (stats_of xs)).bytes ≡ length (layout (local_form (stats_of xs)).tag (span_of (stats_of xs)) own)
    local_bytes = each_local (local_form (stats_of xs)) (local_chosen (stats_of xs))

-- ---- a whole row set: a header before the same layouts

-- a layout by tag, trimming and span that has document 01's headers
pub record Headed (layout : ℕ → Bool → ℕ → List ℕ → List ℕ) (span : ℕ) (xs : List ℕ) : Type 0 where
  pub h1 : length (layout 1 false span xs) ≡ 0
  pub h2 : length (layout 2 false span xs) ≡ length (list_layout 4 xs)
  pub h3 : length (layout 3 false span xs) ≡ length (list_layout 2 xs)
  pub h4 : length (layout 4 false span xs) ≡ 4 + length (runs_layout 2 xs)
  pub h5 : length (layout 5 false span xs) ≡ 4 + length (runs_layout 4 xs)
  pub h6 : length (layout 6 false span xs) ≡ 4 + length (bitmap_layout span xs)
  pub h7 : length (layout 7 false span xs) ≡ 4 + length (missing_layout span xs)
  pub t6 : length (layout 6 true span xs) ≡ 12 + length (bitmap_layout (span_of (stats_of xs)) (own_of xs))
  pub t8 : length (layout 8 true span xs) ≡ 8 + length (missing_layout (span_of (stats_of xs)) (own_of xs))

module _ (layout : ℕ → Bool → ℕ → List ℕ → List ℕ) (span : ℕ) (xs : List ℕ) (rising : Rising 0 span xs) (h : Headed layout span xs) where
  abbrev extent : ℕ
  extent = span_of (stats_of xs)

  each_whole : (f : Form) → Whole (stats_of xs) span f → f.bytes ≡ length (layout f.tag f.trimmed span xs)
  unfolding dense_form items_form bitmap_form
  each_whole _ (dense e) = sym h.h1
  each_whole _ list32 = sym (h.h2 ∙ list_bytes 4 xs)
  each_whole _ (list16 e) = sym (h.h3 ∙ list_bytes 2 xs)
  each_whole _ (runs16 e) = sym (h.h4 ∙ rw (runs_bytes_lem 2 xs))
  each_whole _ (runs32 e) = sym (h.h5 ∙ rw (runs_bytes_lem 4 xs))
  each_whole _ bitmap = sym (h.h6 ∙ rw (bitmap_bytes span xs rising))
  each_whole _ trimmed_bitmap = sym (h.t6 ∙ rw (bitmap_bytes extent (own_of xs) (own_rising xs rising)))
  each_whole _ (missing e) = sym (h.h7 ∙ rw (missing_bytes span xs rising))
  each_whole _ (trimmed_missing e) = sym (h.t8 ∙ rw (missing_bytes extent (own_of xs) (own_rising xs rising), own_count xs rising))

  pub whole_bytes : (whole_form (stats_of xs) span).bytes ≡ length (layout (whole_form (stats_of xs) span).tag (whole_form (stats_of xs) span).trimmed span xs)
  whole_bytes = each_whole (whole_form (stats_of xs) span) (whole_chosen (stats_of xs) span)
