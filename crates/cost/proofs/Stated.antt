-- The bytes that a form states are the length of its own layout: a segment's local layout, and a whole body's.
-- Assumes nothing.
use mathlib.Core.Path.{◌≡◌, refl, ◌∙◌}
use mathlib.Core.List.{List, ◌++◌}
use Prim.Native.Nat.{ℕ, ◌+◌, ◌≤◌}
use native.Mathlib.Omega.{arith}
use lib.ListN.{length, length-append}
use Rattle.fields.specs.Le.{digits}
use Rattle.fields.proofs.Laws.{length_digits}
use Rattle.model.specs.Tests.{pick}
use Rattle.model.specs.Lists.{Rising, runs_of, positions_of}
use Rattle.runs.specs.Runs.{runs_layout}
use Rattle.missing.specs.Missing.{missing_layout}
use Rattle.bitmap.specs.Body.{bitmap_layout}
use Rattle.forms.specs.Forms.{by_tag, local_layout}
use Rattle.single.specs.Layout.{first_of, extent_of, plain_layout, trimmed_layout, single_layout}
use Rattle.stats.specs.Statistics.{stats_of, span_of}
use Rattle.stats.proofs.Joining.{reach}
use Rattle.cost.specs.Forms.{local_form, whole_form}
use Rattle.cost.proofs.Layouts.{local_bytes, own_of, Headed, whole_bytes}

-- a segment: the layout of its rows counted from its first
pub stated_local : (xs : List ℕ) {a b : ℕ} → Rising a b xs
    → (local_form (stats_of xs)).bytes ≡ length (local_layout (local_form (stats_of xs)).tag (span_of (stats_of xs)) (own_of xs))
unfolding local_layout by_tag pick
stated_local xs r = local_bytes xs r local_layout refl refl refl refl refl

-- two fields before a payload, three and four
two : (a b u v : ℕ) (ys : List ℕ) → length (digits a u ++ digits b v ++ ys) ≡ a + b + length ys
two a b u v ys = simp (length-append, length_digits) (omega arith)

three : (a b c u v w : ℕ) (ys : List ℕ) → length (digits a u ++ digits b v ++ digits c w ++ ys) ≡ a + b + c + length ys
three a b c u v w ys = simp (length-append, length_digits) (omega arith)

four : (a b c d u v w x : ℕ) (ys : List ℕ) → length (digits a u ++ digits b v ++ digits c w ++ digits d x ++ ys) ≡ a + b + c + d + length ys
four a b c d u v w x ys = simp (length-append, length_digits) (omega arith)

-- the extent of the layout is the statistics' span
pub extent_span : (xs : List ℕ) {a b : ℕ} → Rising a b xs → 1 ≤ length xs → extent_of xs ≡ span_of (stats_of xs)
unfolding extent_of first_of stats_of
extent_span xs r some = omega (arith, reach r some)

-- and its rows are counted from the first
pub own_is : (xs : List ℕ) → positions_of (first_of xs) xs ≡ own_of xs
unfolding first_of
own_is xs = refl

headed : (span : ℕ) (xs : List ℕ) {a b : ℕ} → Rising a b xs → 1 ≤ length xs → Headed single_layout span xs
unfolding single_layout plain_layout trimmed_layout local_layout by_tag pick
headed span xs r some = record {
  h1 = refl;
  h2 = refl;
  h3 = refl;
  h4 = two 2 2 (length xs) (length (runs_of xs)) (runs_layout 2 xs);
  h5 = two 2 2 (length xs) (length (runs_of xs)) (runs_layout 4 xs);
  h6 = two 2 2 (length xs) 0 (bitmap_layout span xs);
  h7 = two 2 2 (length xs) 0 (missing_layout span xs);
  t6 = four 2 2 4 4 (length xs) 1 (first_of xs) (extent_of xs) (bitmap_layout (extent_of xs) (positions_of (first_of xs) xs)) ∙ rw (extent_span xs r some, own_is xs);
  t8 = three 4 2 2 (first_of xs) (extent_of xs) (length xs) (missing_layout (extent_of xs) (positions_of (first_of xs) xs)) ∙ rw (extent_span xs r some, own_is xs);
}

-- a whole body, its header with it
pub stated_whole : (span : ℕ) (xs : List ℕ) → Rising 0 span xs → 1 ≤ length xs
    → (whole_form (stats_of xs) span).bytes ≡ length (single_layout (whole_form (stats_of xs) span).tag (whole_form (stats_of xs) span).trimmed span xs)
stated_whole span xs r some = whole_bytes single_layout span xs r (headed span xs r some)
