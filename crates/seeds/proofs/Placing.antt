-- The seeds one after the other: where each starts and ends, its part of the rows, and its statistics in its record.
-- Assumes nothing.
use mathlib.Core.Path.{◌≡◌, refl, ap, ◌∙◌}
use mathlib.Core.Logic.{⊎_elim}
use mathlib.Core.List.{List, map}
use Rattle.std.proofs.lemmas.List.{take-map, drop-map}
use Prim.Native.Nat.{ℕ, ◌+◌, ◌-◌, ◌*◌, ◌<◌, ◌≤◌}
use native.Mathlib.Numerals.{add-one}
use native.Mathlib.Omega.{arith}
use lib.ListN.{length, get_or, take, drop}
use Rattle.model.specs.Lists.{positions_of}
use Rattle.model.proofs.Tests.{last_or_before}
use Rattle.model.proofs.Rising.{rising_take, rising_drop}
use Rattle.stats.specs.declared.Stats.{Stats}
use Rattle.stats.specs.Statistics.{stats_of}
use Rattle.stats.specs.Rows.{Covered, Within}
use Rattle.model.proofs.Positions.{positions_take, positions_drop}
use Rattle.stats.proofs.Positions.{covered_within}
use Rattle.gather_core.specs.Seeds.{start_of, windows}
use Rattle.links.specs.Tables.{put_stat}
use Rattle.links.proofs.Tables.{stat_length, stat_here, stat_other}
use Rattle.planning.specs.Refusals.{ends_of}
use Rattle.planning.specs.Segments.{part, between}
use Rattle.planning.proofs.Dividing.{part_length}
use Rattle.seeds.specs.Ends.{Window}
use Rattle.seeds.specs.Placed.{Seeded, Placed, Begun, Ranged}
use Rattle.seeds.proofs.Ends.{Following, none_ends, given_ends}
use Rattle.seeds.proofs.Windows.{windows_each, window_only, ends_following}

-- ---- a part of rows

module _ (start : ℕ) (rows : List ℕ) (a b : ℕ) (k : Ranged start rows a b) where
  part_covered : Covered start (take (b - a) (drop a rows))
  unfolding part
  part_covered = let s = k.some in record { some = rw (part_length rows a b (omega arith) k.inside) (omega arith); rising = rising_take (b - a) (rising_drop a k.covered.rising) }

  pub part_within : Within start (take (b - a) (drop a rows))
  part_within = covered_within part_covered

-- the numbers of a part are the part of the numbers
pub map_part : {A : Type 0} (f : A → ℕ) (rows : List A) (a b : ℕ) → map f (take (b - a) (drop a rows)) ≡ take (b - a) (drop a (map f rows))
map_part f rows a b = rw (drop-map f a rows, take-map f (b - a) (drop a rows))

-- its positions are the part of the positions
pub part_positions : (start : ℕ) (rows : List ℕ) (a b : ℕ) → positions_of start (take (b - a) (drop a rows)) ≡ part (positions_of start rows) a b
unfolding part
part_positions start rows a b = positions_take start (b - a) (drop a rows) ∙ ap (take (b - a)) (positions_drop start a rows)

-- ---- where a seed ends

module _ (rows seeds : List ℕ) (i a : ℕ) (k : Begun rows seeds i a) where
  begun_following : Following (length rows) (ends_of rows seeds)
  begun_following = ends_following rows seeds k.some k.fits

  pub begun_inside : a < length rows
  begun_inside = omega (arith, k.from, begun_following.some i k.seed, begun_following.inside i k.seed)

  pub window_ends : length seeds ≡ 0 → (b : ℕ) → Window rows a b → b ≡ get_or (ends_of rows seeds) i 0
  window_ends z b w =
      let e = none_ends rows seeds z in
      let from : a ≡ start_of (windows rows) i = rw e at k.from in
      let own : Window rows a (get_or (windows rows) i 0) = rw from (windows_each rows k.some i (rw e at k.seed)) in
      rw e (window_only rows w own)

  pub given_inside : (length seeds ≡ 0 → ⊥) → i < length seeds
  given_inside nz = rw (given_ends rows seeds nz) at k.seed

  pub given_end : (length seeds ≡ 0 → ⊥) → (b : ℕ) → b ≡ get_or seeds i 0 → b ≡ get_or (ends_of rows seeds) i 0
  given_end nz b e = rw (given_ends rows seeds nz) e

-- ---- the loop over the seeds, before seed i

pub record Placing (start : ℕ) (rows seeds : List ℕ) (n : ℕ) (before w : List ℕ) (a i : ℕ) : Type 0 where
  pub within : i ≤ n
  pub from : a ≡ start_of (ends_of rows seeds) i
  pub so : Placed start rows seeds i before w

module _ (start : ℕ) (rows seeds : List ℕ) (n : ℕ) (before : List ℕ) (s : Seeded start rows seeds n before) where
  pub placing_start : Placing start rows seeds n before before 0 0
  unfolding start_of
  placing_start = record { within = omega arith; from = refl; so = record { len = refl; stats = λ i l. absurd (omega arith) } }

  module _ (w : List ℕ) (a i : ℕ) (k : Placing start rows seeds n before w a i) (h : i < n) where
    pub placing_begun : Begun rows seeds i a
    placing_begun = record { some = s.covered.some; fits = s.fits; seed = omega (arith, s.number); from = k.from }

    pub placing_room : i * 8 + 8 ≤ length w
    placing_room = omega (arith, s.room, k.so.len)

    module _ (b : ℕ) (e : b ≡ get_or (ends_of rows seeds) i 0) where
      pub placing_range : Ranged start rows a b
      placing_range =
          let f = begun_following rows seeds i a placing_begun in
          let l = placing_begun.seed in
          record { covered = s.covered; some = rw (e, k.from) (f.some i l); inside = rw e (f.inside i l) }

      pub placing_next : (t : Stats) → t ≡ stats_of (part (positions_of start rows) a b) → (w' : List ℕ) → w' ≡ put_stat w i t → Placing start rows seeds n before w' b (i + 1)
      unfolding start_of between
      placing_next t q w' p = record {
        within = omega arith;
        from = rw (add-one i) e;
        so =
            rw p
            (record {
              len = stat_length w i t ∙ k.so.len;
              stats = λ j l.
                  ⊎_elim
                  (λ (z : j ≡ i). rw z (stat_here w i t placing_room ∙ q ∙ rw (k.from, e)))
                  (λ (m : j < i). stat_other w i t j (λ z. omega arith) ∙ k.so.stats j m)
                  (last_or_before (rw (add-one i) at l));
            });
      }
