-- T1 for tag 9: the layout of rows in segments, cut anywhere and each in any local form that can hold it, is accepted and names the rows.
-- Assumes nothing.
use Rattle.std.proofs.Common.{◌≡◌, ℕ, zero, suc, ◌+◌, ◌-◌, ◌<◌, ◌≤◌, true, false, eqb, List, length, sym, refl, ap, ◌∙◌, arith}
use mathlib.Core.Bool.{false≢true}
use Rattle.fields.specs.Le.{width_of}
use Rattle.model.specs.Tests.{pick, flat, total}
use Rattle.model.specs.Lists.{Rising, shift}
use Rattle.model.proofs.Tests.{both_true, all_from, flat-same}
use Rattle.model.proofs.Sums.{flat-total}
use Rattle.model.proofs.Rising.{rising_room, rising_wider}
use Rattle.directory.specs.Directory.{entry_of, part_of, tag_at, span_at, count_at, is_local}
use Rattle.directory.specs.declared.Segment as stated
use Rattle.directory.proofs.LaidOut.{Small, Sound, segments_stated, entry_laid, laid_accepts, names_laid, payload_laid}
use Rattle.forms.specs.Forms.{list_tag, runs_tag, local_accepts, local_names}
use Rattle.forms.specs.RowSets.{RowSet}
use Rattle.forms.proofs.Tags.{Other, local_cases, other_ne}
use Rattle.forms.proofs.Laid.{LocalFits, fits_dense, fits_list, fits_runs, fits_bitmap, fits_missing, layout_accepts, layout_names}
use Rattle.segmented.specs.Segmented.{part_accepts, part_names, segmented_accepts, segmented_names}
use Rattle.segmented.specs.Cuts.{Segment, payload, entries_for, cut_layout, cut_rows, CutFits}

no_local : (tag : ℕ) → Other 7 tag → is_local tag ≡ false
unfolding is_local pick
no_local tag o =
    let ne : (k : ℕ) → 1 ≤ k → k ≤ 7 → eqb tag k ≡ false = other_ne o in
    rw (ne 1 (omega arith) (omega arith), ne 3 (omega arith) (omega arith), ne 4 (omega arith) (omega arith), ne 6 (omega arith) (omega arith)) (ne 7 (omega arith) (omega arith))

local_byte : (tag : ℕ) → is_local tag ≡ true → tag < 256
local_byte =
    local_cases (λ (t : ℕ). is_local t ≡ true → t < 256)
    (λ l. omega arith) (λ l. omega arith) (λ l. omega arith) (λ l. omega arith) (λ l. omega arith) (λ l. omega arith) (λ l. omega arith)
    (λ t o l. absurd (false≢true (sym (no_local t o) ∙ l)))

-- ---- a local form over at most 65,535 positions holds every list of them, dense only that of all

module _ {span : ℕ} {own : List ℕ} (held : RowSet span own) (narrow : span ≤ 65535) where
  small_fields : Rising 0 65536 own
  small_fields = rising_wider (omega arith) (omega arith) held.rising

  local_holds : (tag : ℕ) → is_local tag ≡ true → (tag ≡ 1 → length own ≡ span) → LocalFits tag span own
  unfolding is_local pick list_tag runs_tag width_of
  local_holds tag =
      local_cases (λ (t : ℕ). is_local t ≡ true → (t ≡ 1 → length own ≡ span) → LocalFits t span own)
      (λ l full. fits_dense held.rising held.some held.most (full refl))
      (λ l full. absurd (false≢true l))
      (λ l full. fits_list held.rising held.some held.most false small_fields)
      (λ l full. fits_runs held.rising held.some held.most false small_fields)
      (λ l full. absurd (false≢true l))
      (λ l full. fits_bitmap held.rising held.some held.most)
      (λ l full. fits_missing held.rising held.some held.most narrow)
      (λ t o l full. absurd (false≢true (sym (no_local t o) ∙ l)))
      tag

-- ---- segments that fit

module _ {span n : ℕ} {at : ℕ → Segment} (wide : span ≤ 4294967295) (c : CutFits span n at) where
  fits : (i : ℕ) → i < n → LocalFits (at i).tag (at i).span (at i).own
  fits i l = let s = c.each i l in local_holds s.held s.narrow (at i).tag s.local s.full

  room : (i : ℕ) → i < n → length (at i).own ≤ (at i).span
  room i l = omega (arith, rising_room (omega arith) (c.each i l).held.rising)

  -- each list of segments that do not overlap has room behind the one before
  before : (i : ℕ) → i < n → total (λ (j : ℕ). length (at j).own) (suc i) ≤ (at i).start + (at i).span
  unfolding total
  before zero l = omega (arith, room 0 l)
  before (suc i) l = omega (arith, before i (omega arith), room (suc i) l, c.apart i l)

  sound : Sound (entries_for at) span n
  unfolding entries_for
  sound = record {
    some = c.some;
    few =
        let e : suc (n - 1) ≡ n = omega (arith, c.some) in
        omega (arith, rw e at (before (n - 1) (omega (arith, c.some))), (c.each (n - 1) (omega (arith, c.some))).within);
    within = λ i l. (c.each i l).within;
    apart = c.apart;
    rows = λ i l. record { some = (c.each i l).held.some; within = room i l; most = (c.each i l).held.most };
    local = λ i l. (c.each i l).local;
  }

  small : Small (entries_for at) n
  unfolding entries_for
  small = record {
    segments = omega (arith, c.most);
    rows = omega (arith, c.few);
    offset = λ i l. omega (arith, c.offsets i l);
    size = λ i l. omega (arith, (c.each i l).short);
    start = λ i l. omega (arith, (c.each i l).within);
    span = λ i l. omega (arith, (c.each i l).narrow);
    tag = λ i l. local_byte (at i).tag (c.each i l).local;
  }

  -- entry and payload of segment i read back
  as_laid : {A : Type 0} (f : ℕ → List ℕ → ℕ → ℕ → A) (i : ℕ) → i < n
      → f (tag_at (cut_layout at n) i) (part_of (cut_layout at n) i) (span_at (cut_layout at n) i) (count_at (cut_layout at n) i)
      ≡ f (at i).tag (payload (at i)) (at i).span (length (at i).own)
  unfolding cut_layout entry_of entries_for
  as_laid f i l =
      let e = entry_laid (entries_for at) n (flat (λ (j : ℕ). payload (at j)) n) small i l in
      rw (ap (λ (t : stated.Segment). t.tag) e, payload_laid (entries_for at) n (λ (j : ℕ). payload (at j)) small (λ j h. refl) i l, ap (λ (t : stated.Segment). t.span) e, ap (λ (t : stated.Segment). t.count) e)

  part-accepted : (i : ℕ) → i < n → part_accepts (cut_layout at n) i ≡ true
  unfolding part_accepts
  part-accepted i l = as_laid local_accepts i l ∙ layout_accepts (fits i l)

  part-named : (i : ℕ) → i < n → part_names (cut_layout at n) i ≡ (at i).own
  unfolding part_names
  part-named i l = as_laid local_names i l ∙ layout_names (fits i l)

  sizes : length (flat (λ (i : ℕ). payload (at i)) n) ≡ total (entries_for at).size n
  unfolding entries_for
  sizes = flat-total _ _ n (λ i l. refl)

  pub cut_accepted : segmented_accepts span (cut_layout at n) ≡ true
  unfolding segmented_accepts cut_layout
  cut_accepted = both_true _ _ (laid_accepts (entries_for at) n _ small sound sizes) (rw (segments_stated (entries_for at) n _ small) (all_from _ n part-accepted))

  pub cut_named : segmented_names (cut_layout at n) ≡ cut_rows at n
  unfolding segmented_names cut_layout cut_rows entries_for
  cut_named = names_laid (entries_for at) n _ small _ ∙ flat-same _ _ n (λ i l. ap (shift (at i).start) (part-named i l))
