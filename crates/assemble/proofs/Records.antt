-- What the records hold: the statistics are the records' own, whatever the rows; and one step along the records. That of given rows they hold one
-- cut is `held_same` in planning.
-- Assumes nothing.
use mathlib.Core.Path.{◌≡◌, refl, sym, ◌∙◌}
use mathlib.Core.List.{List, [], ◌∷◌, ◌++◌, append_assoc, append-nil}
use Prim.Native.Nat.{ℕ, ◌<◌, ◌≤◌}
use native.Mathlib.Omega.{arith}
use lib.ListN.{length, length-append}
use Rattle.stats.specs.Statistics.{stats_of, span_of}
use Rattle.stats.proofs.Joining.{stats_append}
use Rattle.links.specs.Tables.{next, stat_at}
use Rattle.planning.specs.Segments.{stats_each}
use Rattle.planning.specs.Held.{Held, end, more}

-- ---- the statistics are those of the records

module _ {n : ℕ} {t : List ℕ} where
  pub same_each : {x : ℕ} {xs ys : List ℕ} {us vs : List (List ℕ)} → Held n t x xs us → Held n t x ys vs → stats_each us ≡ stats_each vs
  unfolding stats_each
  same_each (end e p) (end f q) = refl
  same_each (end e p) (more q l h k s st r) = absurd (omega arith)
  same_each (more q l h k s st r) (end e p) = absurd (omega arith)
  same_each (more p a b c d e r) (more q f g h i j s) = rw (← e, ← j, same_each r s)

  same_stats : {x : ℕ} {xs ys : List ℕ} {us vs : List (List ℕ)} → Held n t x xs us → Held n t x ys vs → (g h : List ℕ) → 1 ≤ length g → 1 ≤ length h → stats_of g ≡ stats_of h → stats_of (g ++ xs) ≡ stats_of (h ++ ys)
  same_stats (end e p) (end f q) g h a b m = rw (p, q, append-nil g, append-nil h) m
  same_stats (end e p) (more q l h k s st r) u v a b m = absurd (omega arith)
  same_stats (more q l h k s st r) (end e p) u v a b m = absurd (omega arith)
  same_stats (more {seg = seg} {rest = rest} p a b c d e r) (more {seg = seg'} {rest = rest'} q f g h i j s) u v some any m =
      let both : stats_of (u ++ seg) ≡ stats_of (v ++ seg') = stats_append u seg some c ∙ rw (m, ← e, j) (sym (stats_append v seg' any h)) in
      rw (p, q, ← append_assoc u seg rest, ← append_assoc v seg' rest') (same_stats r s (u ++ seg) (v ++ seg') (omega (arith, length-append u seg)) (omega (arith, length-append v seg')) both)

  pub same_rows : {x : ℕ} {xs ys : List ℕ} {us vs : List (List ℕ)} → Held n t x xs us → Held n t x ys vs → stats_of xs ≡ stats_of ys
  same_rows (end e p) (end f q) = rw (p, q)
  same_rows (end e p) (more q l h k s st r) = absurd (omega arith)
  same_rows (more q l h k s st r) (end e p) = absurd (omega arith)
  same_rows (more {seg = seg} p a b c d e r) (more {seg = seg'} q f g h i j s) = rw (p, q) (same_stats r s seg seg' c h (sym e ∙ j))

-- ---- one step along the records, and their end

pub record Ahead (n : ℕ) (t : List ℕ) (x : ℕ) (xs : List ℕ) (us : List (List ℕ)) : Type 0 where
  pub seg : List ℕ
  pub rest : List ℕ
  pub segs : List (List ℕ)
  pub all : us ≡ seg ∷ segs
  pub cut : xs ≡ seg ++ rest
  pub on : x < next t x
  pub upto : next t x ≤ n
  pub some : 1 ≤ length seg
  pub short : span_of (stats_of seg) ≤ 65535
  pub stats : stat_at t x ≡ stats_of seg
  pub held : Held n t (next t x) rest segs

module _ {n : ℕ} {t : List ℕ} where
  pub ahead : {x : ℕ} {xs : List ℕ} {us : List (List ℕ)} → x < n → Held n t x xs us → Ahead n t x xs us
  ahead l (end e p) = absurd (omega arith)
  ahead l (more {seg = seg} {rest = rest} {segs = segs} p a b c d e r) = record { seg = seg; rest = rest; segs = segs; all = refl; cut = p; on = a; upto = b; some = c; short = d; stats = e; held = r }

  pub behind : {x : ℕ} {xs : List ℕ} {us : List (List ℕ)} → n ≤ x → Held n t x xs us → (xs ≡ []) × (us ≡ [])
  behind l (end e p) = (p, refl)
  behind l (more p a b c d e r) = absurd (omega arith)

  pub within : {x : ℕ} {xs : List ℕ} {us : List (List ℕ)} → Held n t x xs us → x ≤ n
  within (end e p) = omega arith
  within (more p a b c d e r) = omega arith
