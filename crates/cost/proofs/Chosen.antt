-- Which form is the cheapest: one of those of document 01, where its condition holds.
-- Assumes nothing.
use mathlib.Core.Path.{◌≡◌}
use mathlib.Core.Bool.{true, false}
use mathlib.Core.Logic.{⊎_elim}
use Prim.Native.Nat.{ℕ, ◌+◌, ◌-◌, ◌*◌, ◌<◌, ◌≤◌}
use lib.Dec.{leb}
use borrow.Author.Tests.{eqb-true, leb-true, leb-false}
use Rattle.model.proofs.Tests.{either, pick_true, pick_false}
use Rattle.stats.specs.declared.Stats.{Stats}
use Rattle.stats.specs.Statistics.{span_of, holes_of}
use Rattle.cost.specs.declared.Form.{Form}
use Rattle.cost.specs.Forms.{items_form, bitmap_form, dense_form, local_offers, local_form, runs_form, plain_offers, trimmed_offers, whole_form}
use Rattle.cost.proofs.Least.{end, also, least-one}

pub data Local (s : Stats) : Form → Type 0 where
  dense : holes_of s ≡ 0 → Local s dense_form
  list : Local s (items_form 3 false (2 * s.count) s.count)
  runs : Local s (items_form 4 false (6 * s.runs) s.runs)
  missing : Local s (items_form 7 false (2 * holes_of s) (holes_of s))
  bitmap : Local s (bitmap_form false 0 (span_of s))

pub local_chosen : (s : Stats) → Local s (local_form s)
unfolding local_form local_offers
local_chosen s = least-one (Local s) _ _ list (also (λ e. dense (eqb-true _ _ e)) (also (λ e. runs) (also (λ e. missing) (also (λ e. bitmap) end))))

pub data Whole (s : Stats) (span : ℕ) : Form → Type 0 where
  dense : s.count ≡ span → Whole s span dense_form
  list32 : Whole s span (items_form 2 false (4 * s.count) s.count)
  list16 : s.last ≤ 65535 → Whole s span (items_form 3 false (2 * s.count) s.count)
  runs16 : s.last ≤ 65535 → Whole s span (items_form 4 false (4 + 6 * s.runs) s.runs)
  runs32 : 65535 < s.last → Whole s span (items_form 5 false (4 + 8 * s.runs) s.runs)
  bitmap : Whole s span (bitmap_form false 4 span)
  trimmed_bitmap : Whole s span (bitmap_form true 12 (span_of s))
  missing : span ≤ 65535 → Whole s span (items_form 7 false (4 + 2 * (span - s.count)) (span - s.count))
  trimmed_missing : span_of s ≤ 65535 → Whole s span (items_form 8 true (8 + 2 * holes_of s) (holes_of s))

whole_runs : (s : Stats) (span : ℕ) → Whole s span (runs_form (leb s.last 65535) s.runs)
unfolding runs_form
whole_runs s span =
    ⊎_elim
    (λ e. rw (pick_true {A = Form} _ _ e) (runs16 (leb-true s.last 65535 e)))
    (λ e. rw (pick_false {A = Form} _ _ e) (runs32 (leb-false s.last 65535 e)))
    (either (leb s.last 65535))

pub whole_chosen : (s : Stats) (span : ℕ) → Whole s span (whole_form s span)
unfolding whole_form plain_offers trimmed_offers
whole_chosen s span =
    least-one (Whole s span) _ _ list32
    (also (λ e. dense (eqb-true _ _ e))
    (also (λ e. list16 (leb-true _ _ e))
    (also (λ e. whole_runs s span)
    (also (λ e. bitmap)
    (also (λ e. missing (leb-true _ _ e))
    (also (λ e. trimmed_bitmap)
    (also (λ e. trimmed_missing (leb-true _ _ e)) end)))))))
