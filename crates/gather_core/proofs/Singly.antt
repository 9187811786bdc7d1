-- Rows added singly: what a loop over them keeps.
-- Assumes nothing.
use Rattle.std.proofs.Common.{◌≡◌, ℕ, suc, ◌+◌, ◌-◌, ◌<◌, ◌≤◌, List, [], ◌∷◌, length, get_or, drop, sym, refl, ◌∙◌, arith, length-set, drop_of_length-le}
use native.Mathlib.Nat.{sub-zero}
use Rattle.model.proofs.Taking.{drop_step}
use Rattle.gather_core.specs.declared.Gatherer.{Gatherer}
use Rattle.gather_core.specs.Gather.{added, added_to, added_all, added_all_to, Counted}
use Rattle.gather_core.proofs.Admitted.{after, after_counted}

-- ---- one row more, and the end

module _ (rows : List ℕ) (i : ℕ) (h : i < length rows) where
  pub all_step : (g : Gatherer) → added_all g (drop i rows) ≡ added_all (added g (get_or rows i 0)) (drop (i + 1) rows)
  unfolding added_all
  all_step g = rw (drop_step rows i 0 h)

  pub all_to_step : (t : List ℕ) (g : Gatherer) → added_all_to t g (drop i rows) ≡ added_all_to (added_to t g (get_or rows i 0)) (added g (get_or rows i 0)) (drop (i + 1) rows)
  unfolding added_all_to
  all_to_step t g = rw (drop_step rows i 0 h)

module _ (rows : List ℕ) (i : ℕ) (h : length rows ≤ i) where
  pub all_end : (g : Gatherer) → added_all g (drop i rows) ≡ g
  unfolding added_all
  all_end g = rw (drop_of_length-le rows h)

  pub all_to_end : (t : List ℕ) (g : Gatherer) → added_all_to t g (drop i rows) ≡ t
  unfolding added_all_to
  all_to_end t g = rw (drop_of_length-le rows h)

-- ---- the record, after i rows

pub record Going (rows : List ℕ) (g h : Gatherer) (i : ℕ) : Type 0 where
  pub within : i ≤ length rows
  pub counted : Counted h (length rows - i)
  pub whole : added_all g rows ≡ added_all h (drop i rows)

pub entries_grow : (rs : List ℕ) (g : Gatherer) → g.entries ≤ (added_all g rs).entries
unfolding added_all
entries_grow [] g = omega arith
entries_grow (r ∷ rs) g = omega (arith, (after g r).low, entries_grow rs (added g r))

-- by no more than one for each row
pub entries_few : (rs : List ℕ) (g : Gatherer) → (added_all g rs).entries ≤ g.entries + length rs
unfolding added_all
entries_few [] g = omega arith
entries_few (r ∷ rs) g = omega (arith, (after g r).high, entries_few rs (added g r))

module _ (rows : List ℕ) (g : Gatherer) where
  pub going_start : Counted g (length rows) → Going rows g g 0
  going_start k = record { within = omega arith; counted = rw sub-zero k; whole = refl }

  module _ (h : Gatherer) (i : ℕ) (k : Going rows g h i) where
    pub going_counted : i < length rows → Counted h 1
    going_counted l = let c = k.counted in record { few = omega arith; in_rows = c.in_rows; some = c.some }

    pub going_next : i < length rows → Going rows g (added h (get_or rows i 0)) (i + 1)
    going_next l =
        let e : length rows - i ≡ suc (length rows - (i + 1)) = omega arith in
        record {
          within = omega arith;
          counted = after_counted h (get_or rows i 0) (length rows - (i + 1)) (rw e at k.counted);
          whole = k.whole ∙ all_step rows i l h;
        }

    -- the entries so far are no more than at the end
    pub going_room : i < length rows → (added h (get_or rows i 0)).entries ≤ (added_all g rows).entries
    going_room l = rw (k.whole ∙ all_step rows i l h) (entries_grow (drop (i + 1) rows) (added h (get_or rows i 0)))

    pub going_end : length rows ≤ i → h ≡ added_all g rows
    going_end m = sym (k.whole ∙ all_end rows i m h)

-- ---- and the table

pub record Filling (rows : List ℕ) (t : List ℕ) (g : Gatherer) (u : List ℕ) (h : Gatherer) (i : ℕ) : Type 0 where
  pub going : Going rows g h i
  pub table : added_all_to t g rows ≡ added_all_to u h (drop i rows)
  pub same : length u ≡ length t

module _ (rows t : List ℕ) (g : Gatherer) where
  pub filling_start : Counted g (length rows) → Filling rows t g t g 0
  filling_start k = record { going = going_start rows g k; table = refl; same = refl }

  module _ (u : List ℕ) (h : Gatherer) (i : ℕ) (k : Filling rows t g u h i) where
    pub filling_next : i < length rows → Filling rows t g (added_to u h (get_or rows i 0)) (added h (get_or rows i 0)) (i + 1)
    unfolding added_to
    filling_next l = record {
      going = going_next rows g h i k.going l;
      table = k.table ∙ all_to_step rows i l u h;
      same = simp length-set k.same;
    }

    pub filling_end : length rows ≤ i → u ≡ added_all_to t g rows
    filling_end m = sym (k.table ∙ all_to_end rows i m u h)
