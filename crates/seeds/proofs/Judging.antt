-- The number of the first test that is not met, test by test. What passing them all says is `early_divided` in planning.
-- Assumes nothing.
use mathlib.Core.Path.{◌≡◌, sym, ◌∙◌}
use mathlib.Core.Bool.{Bool, true, false, ◌&&◌}
use mathlib.Core.List.{List}
use Prim.Native.Nat.{ℕ, ◌-◌, ◌*◌, ◌<◌, ◌≤◌}
use native.Mathlib.Omega.{arith}
use lib.Dec.{leb, ltb}
use lib.ListN.{length, get_or}
use borrow.Author.Tests.{leb-true, le-leb, lt-leb, lt-ltb}
use Rattle.model.specs.Tests.{pick}
use Rattle.model.proofs.Tests.{both_true, both_left, both_right, strictly}
use Rattle.gather_core.specs.Gather.{rises}
use Rattle.model.proofs.Counted.{and_both}
use Rattle.planning.specs.Refusals.{coverage_fits, count_fits, rows_fit, given_fit, ends_of, room_fits, early_number}
use Rattle.planning.proofs.Dividing.{fit_divides, divides_few, ends_fit}
use Rattle.std.proofs.Common.{Ok, Err}
use Rattle.model.specs.Refusals.{number_of}
use Rattle.model.specs.declared.refusal.Refusal.{Refusal}
use Rattle.model.specs.declared.refusal.Refusal.TheVariants as refusal
use Rattle.seeds.specs.Judged.{Judged}

-- ---- tests as they are computed

-- a coverage of ordinals
pub ordinals_some : (count : ℕ) → (count ≡ 0 → ⊥) → count ≤ 65535 → coverage_fits 0 count ≡ true
unfolding coverage_fits
ordinals_some count n h =
    let l : 0 < count = strictly (omega arith) (λ (e : 0 ≡ count). n (sym e)) in
    both_true _ _ (lt-ltb 0 count l) (le-leb (count - 0) 4294967295 (omega arith))

pub rows_tested : (start end : ℕ) (rows : List ℕ) (r : Bool) → r ≡ rises rows → (leb start (get_or rows 0 0) && ltb (get_or rows (length rows - 1) 0) end && r) ≡ rows_fit start end rows
unfolding rows_fit
rows_tested start end rows r e = rw (e, and_both (leb start (get_or rows 0 0)) (ltb (get_or rows (length rows - 1) 0) end)) (and_both _ _)

pub count_some : (rows : List ℕ) → count_fits rows ≡ true → (1 ≤ length rows) × (length rows ≤ 65535)
unfolding count_fits
count_some rows e = (leb-true _ _ (both_left _ _ e), leb-true _ _ (both_right _ _ e))

-- as many seeds as a number of 16 bits can count
pub seeds_few : (rows seeds : List ℕ) → count_fits rows ≡ true → given_fit rows seeds ≡ true → length (ends_of rows seeds) ≤ 65535
seeds_few rows seeds e t =
    let n = count_some rows e in
    omega (arith, divides_few (length rows) (ends_of rows seeds) (fit_divides rows (ends_of rows seeds) (ends_fit rows seeds n.0 n.1 t) n.0))

-- ---- the first test that is not met

module _ (start end : ℕ) (rows seeds : List ℕ) (words : ℕ) where
  refuses : (r : Refusal) → number_of r ≡ early_number start end rows seeds words → Judged start end rows seeds words (Err r)
  refuses r e = record { number = e; count = λ n q. absurd cc }

  pub fails_1 : coverage_fits start end ≡ false → Judged start end rows seeds words (Err refusal.Coverage)
  unfolding early_number pick
  fails_1 t = refuses _ (rw t)

  module _ (t1 : coverage_fits start end ≡ true) where
    pub fails_2 : count_fits rows ≡ false → Judged start end rows seeds words (Err refusal.RowCount)
    unfolding early_number pick
    fails_2 t = refuses _ (rw (t1, t))

    module _ (t2 : count_fits rows ≡ true) where
      pub fails_3 : rows_fit start end rows ≡ false → Judged start end rows seeds words (Err refusal.Order)
      unfolding early_number pick
      fails_3 t = refuses _ (rw (t1, t2, t))

      module _ (t3 : rows_fit start end rows ≡ true) where
        pub fails_4 : given_fit rows seeds ≡ false → Judged start end rows seeds words (Err refusal.SeedEnds)
        unfolding early_number pick
        fails_4 t = refuses _ (rw (t1, t2, t3, t))

        -- of so many seeds
        module _ (t4 : given_fit rows seeds ≡ true) (n : ℕ) (q : n ≡ length (ends_of rows seeds)) where
          pub fails_5 : words < n * 24 → Judged start end rows seeds words (Err refusal.Workspace)
          unfolding early_number room_fits pick
          fails_5 l = refuses _ (rw (t1, t2, t3, t4, ← q, lt-leb (n * 24) words l))

          pub passes : n * 24 ≤ words → Judged start end rows seeds words (Ok n)
          unfolding early_number room_fits pick
          passes h = record { number = rw (t1, t2, t3, t4, ← q, le-leb (n * 24) words h); count = λ m e. let s : n ≡ m = cc in sym s ∙ q }
