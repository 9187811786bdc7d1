-- The body that a form asks for: which of the writers writes it, what it asks, and what it leaves.
-- Assumes nothing.
use mathlib.Core.Path.{◌≡◌, ap, ◌∙◌}
use mathlib.Core.Bool.{true, false}
use mathlib.Core.List.{List}
use Prim.Native.Nat.{ℕ, ◌+◌, ◌≤◌}
use native.Mathlib.Omega.{arith}
use lib.ListN.{length}
use borrow.Author.Tests.{eq-eqb, ne_eqb}
use Rattle.model.proofs.Tests.{pick_true, pick_false}
use Rattle.model.specs.Lists.{Rising, runs_of, positions_of}
use Rattle.stats.specs.declared.Stats.{Stats}
use Rattle.stats.specs.Statistics.{stats_of}
use Rattle.stats.specs.Rows.{Covered}
use Rattle.cost.specs.declared.Form.{Form}
use Rattle.model.proofs.Runs.{runs_most}
use Rattle.model.proofs.Positions.{length_positions}
use Rattle.single.specs.Layout.{plain_layout, trimmed_layout, single_layout}
use Rattle.emit.specs.Written.{Written}
use Rattle.planning.specs.Bodies.{segmented_layout, layout_by}
use Rattle.assemble.specs.declared.Summary.{Summary}
use Rattle.assemble.specs.Emission.{Emittable, Emitted, Writable, Laid}

module _ (f : Form) (span : ℕ) (xs : List ℕ) (segs : List (List ℕ)) where
  by_segments : f.tag ≡ 9 → layout_by f span xs segs ≡ segmented_layout segs
  unfolding layout_by
  by_segments e = pick_true _ _ (eq-eqb f.tag 9 e)

  by_trimmed : (f.tag ≡ 9 → ⊥) → f.trimmed ≡ true → layout_by f span xs segs ≡ trimmed_layout f.tag xs
  unfolding layout_by single_layout
  by_trimmed o e = pick_false _ _ (ne_eqb f.tag 9 o) ∙ pick_true _ _ e

  by_plain : (f.tag ≡ 9 → ⊥) → f.trimmed ≡ false → layout_by f span xs segs ≡ plain_layout f.tag span xs
  unfolding layout_by single_layout
  by_plain o e = pick_false _ _ (ne_eqb f.tag 9 o) ∙ pick_false _ _ e

module _ {n : ℕ} {t : List ℕ} {start : ℕ} {rows : List ℕ} {span : ℕ} {f : Form} {sum : Summary} {room : ℕ} (w : Writable n t start rows span f sum room) where
  -- as many segments as the summary says
  pub segments_ask : f.tag ≡ 9 → Emittable n t start rows sum.segments room
  segments_ask e =
      let k = w.kept in
      let same = by_segments f span (positions_of start rows) k.segs e in
      record { kept = k; count = w.summed.segments (positions_of start rows) k.segs k.held; fits = rw same at w.fits; short = rw same at w.short }

  pub trimmed_ask : (f.tag ≡ 9 → ⊥) → f.trimmed ≡ true → (Covered start rows) × (length rows ≤ 65535) × (length (trimmed_layout f.tag (positions_of start rows)) ≤ room)
  trimmed_ask o e = let k = w.kept in (k.covered, k.few, rw (by_trimmed f span (positions_of start rows) k.segs o e) at w.fits)

  -- the runs of all rows
  pub runs_known : (sum.stats.runs ≡ length (runs_of (positions_of start rows))) × (sum.stats.runs ≤ 65535)
  unfolding stats_of
  runs_known =
      let k = w.kept in
      let e : sum.stats.runs ≡ length (runs_of (positions_of start rows)) = ap (λ (s : Stats). s.runs) (w.summed.stats (positions_of start rows) k.segs k.held) in
      (e, omega (arith, e, runs_most (positions_of start rows), length_positions start rows, k.few))

  pub plain_ask : (f.tag ≡ 9 → ⊥) → f.trimmed ≡ false → (Rising start (start + span) rows) × (length rows ≤ 65535) × (sum.stats.runs ≡ length (runs_of (positions_of start rows))) × (length (plain_layout f.tag span (positions_of start rows)) ≤ room)
  plain_ask o e = let k = w.kept in (w.rising, k.few, runs_known.0, rw (by_plain f span (positions_of start rows) k.segs o e) at w.fits)

module _ {n : ℕ} {t : List ℕ} {start : ℕ} {rows : List ℕ} {span : ℕ} {f : Form} {before after : List ℕ} {r : ℕ} where
  pub segments_laid : f.tag ≡ 9 → Emitted n t start rows before after r → Laid n t start rows span f before after r
  segments_laid e l = record { written = λ segs h. rw (by_segments f span (positions_of start rows) segs e) (l.written segs h) }

  pub trimmed_laid : (f.tag ≡ 9 → ⊥) → f.trimmed ≡ true → Written (trimmed_layout f.tag (positions_of start rows)) 0 before after r → Laid n t start rows span f before after r
  trimmed_laid o e l = record { written = λ segs h. rw (by_trimmed f span (positions_of start rows) segs o e) l }

  pub plain_laid : (f.tag ≡ 9 → ⊥) → f.trimmed ≡ false → Written (plain_layout f.tag span (positions_of start rows)) 0 before after r → Laid n t start rows span f before after r
  plain_laid o e l = record { written = λ segs h. rw (by_plain f span (positions_of start rows) segs o e) l }
