-- The bytes of a segment by its four numbers: a list, runs, the missing positions, a bitmap.
-- Assumes nothing.
use mathlib.Core.Path.{◌≡◌, refl}
use mathlib.Core.Bool.{false}
use Prim.Native.Nat.{ℕ, ◌*◌, ◌≤◌, min}
use native.Mathlib.Omega.{arith}
use lib.Dec.{lit<}
use borrow.Author.Tests.{eqb-true}
use Rattle.bitmap.specs.Body.{bitmap_length}
use Rattle.stats.specs.declared.Stats.{Stats}
use Rattle.stats.specs.Statistics.{span_of, holes_of}
use Rattle.cost.specs.declared.Form.{Form}
use Rattle.cost.specs.Forms.{items_form, bitmap_form, dense_form, always, local_offers, local_form, payload}
use Rattle.cost.proofs.Least.{also, end, least-one, least_first, least_each, local_bitmap}

module _ (s : Stats) where
  abbrev list : Form
  list = items_form 3 false (2 * s.count) s.count

  abbrev fewest : ℕ
  fewest = min (min (2 * s.count) (6 * s.runs)) (min (2 * holes_of s) (bitmap_length (span_of s)))

  -- dense may be taken only where nothing is missing
  above : fewest ≤ payload s
  unfolding payload local_form local_offers items_form dense_form bitmap_form
  above = least-one (λ g. fewest ≤ g.bytes) list (local_offers s) (omega arith)
      (also (λ t. omega (arith, eqb-true (holes_of s) 0 t)) (also (λ _. omega arith) (also (λ _. omega arith) (also (λ _. omega arith) end))))

  pub payload_most : payload s ≤ 2 * s.count
  unfolding payload local_form items_form
  payload_most = least_first list (local_offers s)

  under_runs : payload s ≤ 6 * s.runs
  unfolding payload local_form local_offers items_form
  under_runs = least_each list (local_offers s) 1 (always dense_form) (lit< tt) refl

  under_holes : payload s ≤ 2 * holes_of s
  unfolding payload local_form local_offers items_form
  under_holes = least_each list (local_offers s) 2 (always dense_form) (lit< tt) refl

  under_bits : payload s ≤ bitmap_length (span_of s)
  unfolding payload
  under_bits = local_bitmap s

  pub payload_is : fewest ≡ payload s
  payload_is = omega (arith, above, payload_most, under_runs, under_holes, under_bits)
