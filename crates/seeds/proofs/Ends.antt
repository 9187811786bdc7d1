-- Ends of seeds that follow one another: test 4 in two parts, and what the first of them says of every end.
-- Assumes nothing.
use mathlib.Core.Path.{◌≡◌, refl, sym, ◌∙◌}
use mathlib.Core.Bool.{Bool, true, false, ◌&&◌}
use mathlib.Core.List.{List}
use Prim.Native.Nat.{ℕ, zero, suc, ◌+◌, ◌-◌, ◌<◌, ◌≤◌}
use native.Mathlib.Numerals.{add-one}
use native.Mathlib.Omega.{arith}
use lib.Dec.{eqb, ltb}
use lib.ListN.{length, get_or}
use borrow.Author.Tests.{ltb-true, lt-ltb, eqb-true, eq-eqb, ne_eqb}
use Rattle.model.specs.Tests.{both, all}
use Rattle.model.proofs.Tests.{same_test, both_true, both_left, both_right, both_first, all_at, all_from, pick_true, pick_false}
use Rattle.gather_core.specs.Gather.{up_at, rises}
use Rattle.gather_core.specs.Seeds.{start_of, seed_at, seeds_fit, windows}
use Rattle.model.proofs.Counted.{and_both, flag_step}
use Rattle.planning.specs.Refusals.{given_fit, ends_of}
use Rattle.planning.proofs.Dividing.{climbs, seed_fits, rises_next}
use Rattle.seeds.specs.Ends.{ends_rise, near, near_at}

-- seed i has a row, and ends within n rows
pub record Following (n : ℕ) (ends : List ℕ) : Type 0 where
  pub some : (i : ℕ) → i < length ends → start_of ends i < get_or ends i 0
  pub inside : (i : ℕ) → i < length ends → get_or ends i 0 ≤ n

-- ---- the first part of test 4

module _ (n : ℕ) (ends : List ℕ) (e : ends_rise n ends ≡ true) where
  ends_rises : rises ends ≡ true
  unfolding ends_rise
  ends_rises = both_right _ _ (both_left _ _ e)

  last_end : get_or ends (length ends - 1) 0 ≡ n
  unfolding ends_rise
  last_end = eqb-true _ _ (both_right _ _ e)

  end_some : (i : ℕ) → i < length ends → start_of ends i < get_or ends i 0
  unfolding start_of ends_rise
  end_some zero h = ltb-true _ _ (both_left _ _ (both_left _ _ e))
  end_some (suc i) h = rises_next ends ends_rises i (omega arith)

  pub rise_following : Following n ends
  rise_following =
      let up = climbs (λ (k : ℕ). get_or ends k 0) (length ends - 1) (rises_next ends ends_rises) in
      record { some = end_some; inside = λ i h. omega (arith, last_end, up i (length ends - 1) (omega arith) (omega arith)) }

-- as it is computed
pub ends_tested : (n : ℕ) (ends : List ℕ) (last : ℕ) (r : Bool) → last ≡ get_or ends (length ends - 1) 0 → r ≡ rises ends → (ltb 0 (get_or ends 0 0) && r && eqb last n) ≡ ends_rise n ends
unfolding ends_rise
ends_tested n ends last r l e = rw (l, e, and_both (ltb 0 (get_or ends 0 0)) (rises ends)) (and_both _ _)

-- ---- the second part

-- a loop over the seeds, before seed i
pub record Nearing (rows ends : List ℕ) (ok : Bool) (a i : ℕ) : Type 0 where
  pub within : i ≤ length ends
  pub from : a ≡ start_of ends i
  pub so : ok ≡ all (near_at rows ends) i

module _ (rows ends : List ℕ) where
  pub nearing_start : Nearing rows ends true 0 0
  unfolding start_of all
  nearing_start = record { within = omega arith; from = refl; so = refl }

  module _ (ok : Bool) (a i b : ℕ) (k : Nearing rows ends ok a i) (h : i < length ends) (e : b ≡ get_or ends i 0) where
    pub nearing_range : ends_rise (length rows) ends ≡ true → (a < b) × (b ≤ length rows)
    nearing_range t = let f = rise_following (length rows) ends t in rw (k.from, e) (f.some i h, f.inside i h)

    pub nearing_next : (r : Bool) → r ≡ near rows a b → Nearing rows ends (ok && r) b (i + 1)
    unfolding start_of near_at
    nearing_next r q = record {
      within = omega arith;
      from = rw (add-one i) e;
      so = flag_step (near_at rows ends) i k.so (rw (q, k.from, e));
    }

-- ---- test 4 is both of its parts

module _ (rows ends : List ℕ) (some : 1 ≤ length ends) where
  module _ (e : seeds_fit rows ends ≡ true) where
    fit-rises : ends_rise (length rows) ends ≡ true
    unfolding ends_rise seeds_fit seed_at start_of rises up_at
    fit-rises =
        let up : (i : ℕ) → i < length ends - 1 → up_at ends i ≡ true = λ i h. rw add-one (both_left _ _ (seed_fits rows ends e (suc i) (omega arith))) in
        both_true _ _ (both_true _ _ (both_left _ _ (seed_fits rows ends e 0 some)) (all_from (up_at ends) (length ends - 1) up)) (both_right _ _ e)

    fit-near : all (near_at rows ends) (length ends) ≡ true
    unfolding seed_at near_at near
    fit-near = all_from (near_at rows ends) (length ends) (λ i h. both_right _ _ (seed_fits rows ends e i h))

  parts_fit : both (ends_rise (length rows) ends) (all (near_at rows ends) (length ends)) ≡ true → seeds_fit rows ends ≡ true
  unfolding seeds_fit seed_at near_at near
  parts_fit e =
      let r = both_left _ _ e in
      let f = rise_following (length rows) ends r in
      both_true _ _
      (all_from (seed_at rows ends) (length ends) (λ i h. both_true _ _ (lt-ltb _ _ (f.some i h)) (all_at (near_at rows ends) (length ends) (both_right _ _ e) i h)))
      (eq-eqb _ _ (last_end (length rows) ends r))

  pub fit_parts : seeds_fit rows ends ≡ both (ends_rise (length rows) ends) (all (near_at rows ends) (length ends))
  fit_parts = same_test (seeds_fit rows ends) (both (ends_rise (length rows) ends) (all (near_at rows ends) (length ends))) (λ e. both_true _ _ (fit-rises e) (fit-near e)) parts_fit

  -- as it is computed
  pub unfit : ends_rise (length rows) ends ≡ false → false ≡ seeds_fit rows ends
  unfit e = sym (fit_parts ∙ both_first _ _ e)

  pub fit_by : ends_rise (length rows) ends ≡ true → (r : Bool) → r ≡ all (near_at rows ends) (length ends) → r ≡ seeds_fit rows ends
  unfolding both
  fit_by e r q = q ∙ sym (rw e at fit_parts)

-- ---- ends given, or none

module _ (rows seeds : List ℕ) where
  module _ (z : length seeds ≡ 0) where
    pub none_fit : given_fit rows seeds ≡ true
    unfolding given_fit
    none_fit = pick_true _ _ (eq-eqb _ _ z)

    pub none_ends : ends_of rows seeds ≡ windows rows
    unfolding ends_of
    none_ends = pick_true _ _ (eq-eqb _ _ z)

  module _ (nz : length seeds ≡ 0 → ⊥) where
    pub given-fit : given_fit rows seeds ≡ seeds_fit rows seeds
    unfolding given_fit
    given-fit = pick_false _ _ (ne_eqb _ _ nz)

    pub given_ends : ends_of rows seeds ≡ seeds
    unfolding ends_of
    given_ends = pick_false _ _ (ne_eqb _ _ nz)
