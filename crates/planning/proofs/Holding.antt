-- The records that merging leaves hold the segments of the plan, and records hold no others.
-- Assumes nothing.
use mathlib.Core.Path.{◌≡◌, refl, sym, ap, ◌∙◌}
use mathlib.Core.List.{List, ◌∷◌, ◌++◌}
use Prim.Native.Nat.{ℕ, suc, ◌<◌, ◌≤◌}
use native.Mathlib.Omega.{arith}
use lib.ListN.{length, take, drop}
use lib.Seq.{take_at, drop_at}
use Rattle.model.specs.Lists.{Rising}
use Rattle.stats.specs.declared.Stats.{Stats}
use Rattle.stats.specs.Statistics.{stats_of}
use Rattle.links.specs.Links.{Chain, link}
use Rattle.links.specs.Pairs.{Seeds}
use Rattle.links.specs.Tables.{records, next, stat_at}
use Rattle.merge.specs.Steps.{offers_of, Merged}
use Rattle.links.proofs.Tables.{records-field, records_stat}
use Rattle.merge.proofs.Rows.{segment_rows, cuts_rows, offers_rows, rows_seeds}
use Rattle.planning.specs.Segments.{between, cuts_left, offers_for, pieces, segments_of}
use Rattle.planning.specs.Held.{Held, end, more}
use Rattle.planning.proofs.Dividing.{between_some, between_cut, between_whole, ahead, ahead_none, ahead_cut}
use Rattle.planning.proofs.Narrow.{Through, last, step, through_inside, Slim, Narrow, cuts_narrow, Parts, nothing, front}

-- ---- what holds of them

pub held_parts : {n : ℕ} {t : List ℕ} {x : ℕ} {xs : List ℕ} {segs : List (List ℕ)} → Held n t x xs segs → Parts xs segs
held_parts (end e z) = nothing z
held_parts (more e p q some slim s k) = front e some slim (held_parts k)

-- reading the whole slice instead of its records
pub held_slice : {n : ℕ} {w : List ℕ} {x : ℕ} {xs : List ℕ} {segs : List (List ℕ)} → Held n (records n w) x xs segs → Held n w x xs segs
held_slice (end e z) = end e z
held_slice {n} {w} {x} (more {segs = segs} e p q some slim s k) =
    let f : next w x ≡ next (records n w) x = records-field n w x 0 (omega arith) (omega arith) in
    more {x = x} {segs = segs} e (rw f p) (rw f q) some slim (records_stat n w x (omega arith) ∙ s) (rw f (held_slice k))

-- two lists in two parts, the first parts of one length
same_front : (xs ys xs' ys' : List ℕ) → length xs ≡ length xs' → xs ++ ys ≡ xs' ++ ys' → (xs ≡ xs') × (ys ≡ ys')
same_front xs ys xs' ys' n e = (
  sym (take_at xs ys (length xs) refl) ∙ ap (take (length xs)) e ∙ take_at xs' ys' (length xs) (sym n),
  sym (drop_at xs ys (length xs) refl) ∙ ap (drop (length xs)) e ∙ drop_at xs' ys' (length xs) (sym n),
)

-- records hold the rows in one way
held_go : {n : ℕ} {t : List ℕ} {x : ℕ} {xs ys : List ℕ} {segs segs' : List (List ℕ)} → Held n t x xs segs → Held n t x ys segs' → xs ≡ ys → segs ≡ segs'
unfolding stats_of
held_go (end e z) (end e' z') same = refl
held_go (end e z) (more e' p q some slim s k) same = absurd (omega arith)
held_go (more e p q some slim s k) (end e' z) same = absurd (omega arith)
held_go (more {seg = seg} {rest = rest} {segs = segs} e p q some slim s k) (more {seg = seg'} {rest = rest'} {segs = segs'} e' p' q' some' slim' s' k') same =
    let o = same_front seg rest seg' rest' (ap (λ (z : Stats). z.count) (sym s ∙ s')) (sym e ∙ same ∙ e') in
    let tail : segs ≡ segs' = held_go k k' o.1 in
    λ i. o.0 i ∷ tail i

pub held_same : {n x : ℕ} {t xs : List ℕ} {segs segs' : List (List ℕ)} → Held n t x xs segs → Held n t x xs segs' → segs ≡ segs'
held_same h k = held_go h k refl

-- ---- the records that merging leaves

module _ (xs ends : List ℕ) (k : Narrow xs ends) (f : ℕ → Stats) (seeds : (i : ℕ) → i < length ends → f i ≡ stats_of (between xs ends i (suc i))) where
  cut_rows_lem : (l m r : ℕ) → l < m → m < r → r ≤ length ends → between xs ends l r ≡ between xs ends l m ++ between xs ends m r
  cut_rows_lem l m r p q h = between_cut xs ends k.divides l m r (omega arith) (omega arith) h

  pub narrow_offers : offers_of f (length ends) ≡ offers_for xs ends
  unfolding offers_for
  narrow_offers = offers_rows (length ends) (between xs ends) (between_some xs ends k.divides) cut_rows_lem f seeds

  pub narrow_seeds : {b : ℕ} → b ≤ 4294967295 → Rising 0 b xs → Seeds f (length ends)
  narrow_seeds h ri = rows_seeds (length ends) (between xs ends) (between_some xs ends k.divides) cut_rows_lem f seeds h (rw (between_whole xs ends k.divides) ri)

  module _ (t : List ℕ) (m : Merged f (length ends) t) where
    held_through : {x : ℕ} {cs : List ℕ} → Through (Slim xs ends) (length ends) x cs → Chain (next t) (x ∷ cs) → Held (length ends) t x (ahead xs ends x) (pieces (between xs ends) (x ∷ cs))
    unfolding pieces
    held_through {x} (last e) ch = end e (ahead_none xs ends x e)
    held_through {x} (step {y = y} {cs = cs} p q s) (link e ch) =
        let h = through_inside s in
        let stat : stat_at t x ≡ stats_of (between xs ends x y) = m.stats x y e (omega arith) ∙ segment_rows (length ends) (between xs ends) (between_some xs ends k.divides) cut_rows_lem f seeds x y p h in
        more {x = x} {rest = ahead xs ends y} {segs = pieces (between xs ends) (y ∷ cs)} (ahead_cut xs ends k.divides x y p h) (rw e p) (rw e h) (between_some xs ends k.divides x y p h) q stat (rw e (held_through s ch))

    pub merged_held : Held (length ends) t 0 xs (segments_of xs ends)
    unfolding segments_of cuts_left
    merged_held =
        let o = cuts_narrow xs ends k in
        let same = cuts_rows (length ends) (between xs ends) (between_some xs ends k.divides) cut_rows_lem f seeds ∙ o.cuts in
        rw o.cuts (rw (between_whole xs ends k.divides) at (held_through o.through (rw same at m.cuts)))
