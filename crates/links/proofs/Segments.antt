-- The statistics of segments: joined they are those of the joined segment, they are sound, and what admission says of them.
-- Assumes nothing.
use mathlib.Core.Path.{◌≡◌, refl, ap, ◌∙◌}
use mathlib.Core.Logic.{⊎_elim}
use mathlib.Core.Bool.{Bool, true, false}
use Prim.Native.Nat.{ℕ, zero, suc, ◌+◌, ◌-◌, ◌<◌, ◌≤◌}
use native.Mathlib.Nat.{add-zero, add-suc}
use native.Mathlib.Numerals.{add-one}
use native.Mathlib.Omega.{arith}
use lib.Dec.{eqb, leb}
use borrow.Author.Tests.{leb-true, leb-false, le-leb}
use Rattle.model.specs.Tests.{pick}
use Rattle.model.proofs.Tests.{pick_most, both_left, both_right, both_true, either, never}
use Rattle.stats.specs.declared.Stats.{Stats}
use Rattle.stats.specs.Statistics.{Sound, Neighbours, joined, span_of}
use Rattle.stats.proofs.Joining.{joined-sound}
use Rattle.cost.specs.Forms.{payload}
use Rattle.cost.proofs.Least.{local_short}
use Rattle.links.specs.Pairs.{admits, saves, total_from, segment_of, Seeds}

pub seeds_neighbours : {f : ℕ → Stats} {n : ℕ} (i : ℕ) → Seeds f n → i + 1 < n → Neighbours (f i) (f (i + 1))
seeds_neighbours i s h = rw (add-one i) (record { left = s.sound i (omega arith); right = s.sound (suc i) (omega arith); apart = s.apart i (omega arith) })

-- ---- joining

one_most : (t : Bool) → pick {A = ℕ} t 1 0 ≤ 1
one_most t = pick_most t 1 0 1 (omega arith) (omega arith)

pub joined_assoc : (a b c : Stats) → 1 ≤ b.runs → joined (joined a b) c ≡ joined a (joined b c)
unfolding joined
joined_assoc a b c h =
    let t : ℕ = pick (eqb b.first (suc a.last)) 1 0 in
    let u : ℕ = pick (eqb c.first (suc b.last)) 1 0 in
    let counts : a.count + b.count + c.count ≡ a.count + (b.count + c.count) = omega arith in
    let runs : a.runs + b.runs - t + c.runs - u ≡ a.runs + (b.runs + c.runs - u) - t = omega (arith, one_most (eqb b.first (suc a.last)), one_most (eqb c.first (suc b.last))) in
    λ i. record { first = a.first; last = c.last; count = counts i; runs = runs i }

module _ {f : ℕ → Stats} {n : ℕ} (s : Seeds f n) where
  -- what the statistics of k + 1 seeds from l on are
  pub record Whole (l k : ℕ) : Type 0 where
    pub sound : Sound (total_from f l k)
    pub first : (total_from f l k).first ≡ (f l).first
    pub last : (total_from f l k).last ≡ (f (l + k)).last

  whole_next : (l k : ℕ) → suc (l + k) < n → Whole l k → Neighbours (total_from f l k) (f (suc (l + k)))
  whole_next l k h w = record { left = w.sound; right = s.sound (suc (l + k)) h; apart = omega (arith, w.last, s.apart (l + k) h) }

  whole : (l k : ℕ) → l + k < n → Whole l k
  unfolding total_from joined
  whole l zero h = record { sound = s.sound l (omega arith); first = refl; last = rw (add-zero l) }
  whole l (suc k) h =
      let ih = whole l k (omega arith) in
      record { sound = joined-sound (total_from f l k) (f (suc (l + k))) (whole_next l k (omega arith) ih); first = ih.first; last = rw (add-suc l k) }

  total_join : (l j k : ℕ) → suc (l + (j + k)) < n → total_from f l (suc (j + k)) ≡ joined (total_from f l j) (total_from f (suc (l + j)) k)
  unfolding total_from
  total_join l j zero h = rw (add-zero j)
  total_join l j (suc k) h =
      let e : l + suc (j + k) ≡ suc (l + j) + k = omega arith in
      let ih = total_join l j k (omega arith) in
      rw (add-suc j k, ih, e) (joined_assoc (total_from f l j) (total_from f (suc (l + j)) k) (f (suc (suc (l + j) + k))) (whole (suc (l + j)) k (omega arith)).sound.some)

  -- ---- the segment from one cut to another

  pub segment_join : (l m r : ℕ) → l < m → m < r → r ≤ n → segment_of f l r ≡ joined (segment_of f l m) (segment_of f m r)
  unfolding segment_of
  segment_join l m r p q h =
      let e : r - suc l ≡ suc (m - suc l + (r - suc m)) = omega arith in
      let e' : suc (l + (m - suc l)) ≡ m = omega arith in
      rw e (total_join l (m - suc l) (r - suc m) (omega arith) ∙ rw e')

  pub segment_neighbours : (l m r : ℕ) → l < m → m < r → r ≤ n → Neighbours (segment_of f l m) (segment_of f m r)
  unfolding segment_of
  segment_neighbours l m r p q h =
      let a = whole l (m - suc l) (omega arith) in
      let b = whole m (r - suc m) (omega arith) in
      let e : suc (l + (m - suc l)) ≡ m = omega arith in
      record { left = a.sound; right = b.sound; apart = omega (arith, a.last, b.first, s.apart (l + (m - suc l)) (omega arith), ap (λ (i : ℕ). (f i).first) e) }

pub segment_one : (f : ℕ → Stats) (i : ℕ) → segment_of f i (i + 1) ≡ f i
unfolding segment_of total_from
segment_one f i = let e : i + 1 - suc i ≡ 0 = omega arith in rw e

-- ---- admission

pub admits_short : (a b : Stats) → admits a b ≡ true → span_of (joined a b) ≤ 65535
unfolding admits
admits_short a b e = leb-true _ _ (both_left _ _ e)

pub admits_pays : (a b : Stats) → admits a b ≡ true → payload (joined a b) ≤ 16 + payload a + payload b
unfolding admits
admits_pays a b e = leb-true _ _ (both_right _ _ e)

-- a pair that is not admitted costs more joined, or is too long: one that saves nothing is admitted
pub refuses : (a b : Stats) → admits a b ≡ false → span_of (joined a b) ≤ 65535 → 16 + payload a + payload b < payload (joined a b)
unfolding admits
refuses a b e h = ⊎_elim
    (λ t. never (both_true _ _ (le-leb _ _ h) t) e)
    (λ t. leb-false _ _ t)
    (either (leb (payload (joined a b)) (16 + payload a + payload b)))

-- a saving has 15 bits
pub saves_small : (a b : Stats) → Neighbours a b → admits a b ≡ true → saves a b < 32768
unfolding saves payload joined
saves_small a b k e =
    let h = admits_short a b e in
    let in-a = k.left.ordered in
    let in_b = k.right.ordered in
    omega (arith, local_short a (omega (arith, k.apart)), local_short b (omega (arith, k.apart)))

-- ---- what the code computes

pub join_sound : (a b j : Stats) → j ≡ joined a b → Neighbours a b → Sound j
join_sound a b j e k = rw e (joined-sound a b k)
