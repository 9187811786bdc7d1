-- What the steps of merging make of the workspace.
-- Assumes nothing.
use Rattle.std.specs.Prelude.{◌≡◌, Bool, true, false, List, ◌∷◌, ℕ, ◌+◌, ◌-◌, ◌<◌, ◌≤◌, ltb}
use Rattle.model.specs.Tests.{both}
use Rattle.stats.specs.declared.Stats.{Stats}
use Rattle.stats.specs.Statistics.{Neighbours, joined}
use Rattle.queue.specs.Keys.{key, occ, one, Heap}
use Rattle.links.specs.Links.{Chain, Cuts}
use Rattle.links.specs.Keys.{code}
use Rattle.links.specs.Pairs.{admits, saves, segment_of, admitted, saving}
use Rattle.links.specs.Tables.{next, prev, stat_at, is_live, linked}
use Rattle.merge.specs.Rule.{one_if, pairs, merged, offers, cuts_from}

-- how often the key x is in the queue of q keys
abbrev pub many : List ℕ → ℕ → ℕ → ℕ
many h q x = occ (key h) q x

-- h' is h, a queue of q keys, with the key k put in if t; then c keys wait
pub record Added (q : ℕ) (t : Bool) (k : ℕ) (h h' : List ℕ) (c : ℕ) : Type 0 where
  pub count : c ≡ q + one_if t
  pub heap : Heap h' c
  pub put : t ≡ true → (x : ℕ) → many h' c x ≡ many h q x + one k x
  pub not : t ≡ false → (x : ℕ) → many h' c x ≡ many h q x

-- the pair of segments that start at l and m
abbrev pub pair_is : List ℕ → ℕ → ℕ → Bool
pair_is t l m = admits (stat_at t l) (stat_at t m)

abbrev pub pair_key : List ℕ → ℕ → ℕ → ℕ → ℕ
pair_key t l m r = code (saves (stat_at t l) (stat_at t m)) l m r

-- the pair to the left of the segment from l to r: whether it is there and admitted, and its key
abbrev pub left_is : List ℕ → ℕ → Bool
left_is t l = both (ltb 0 l) (pair_is t (prev t l) l)

abbrev pub left_key : List ℕ → ℕ → ℕ → ℕ
left_key t l r = pair_key t (prev t l) l r

-- the same to its right
abbrev pub right_is : List ℕ → ℕ → ℕ → Bool
right_is t l r = both (ltb 0 (next t r)) (pair_is t l r)

abbrev pub right_key : List ℕ → ℕ → ℕ → ℕ
right_key t l r = pair_key t l r (next t r)

-- the statistics of two segments as one
abbrev pub joint_of : List ℕ → ℕ → ℕ → Stats
joint_of t l m = joined (stat_at t l) (stat_at t m)

-- what the neighbours of the segment from l to r, with the statistics s, have to be
pub record Left (t : List ℕ) (l : ℕ) (s : Stats) : Type 0 where
  pub before : prev t l < l
  pub fits : Neighbours (stat_at t (prev t l)) s

pub record Right (n : ℕ) (t : List ℕ) (r : ℕ) (s : Stats) : Type 0 where
  pub after : r < next t r
  pub inside : next t r ≤ n
  pub fits : Neighbours s (stat_at t r)

-- the segments that meet at m can be joined, and then offered with their neighbours
pub record Ready (n : ℕ) (t : List ℕ) (l m r : ℕ) : Type 0 where
  pub cuts : Cuts n l m r
  pub pair : Neighbours (stat_at t l) (stat_at t m)
  pub left : 0 < l → Left t l (joint_of t l m)
  pub right : 0 < next t r → Right n t r (joint_of t l m)

-- the segments that meet at m are joined, and the pairs that contain the joined segment are offered
pub record Joining (q l m r : ℕ) (t t' h h' : List ℕ) (c : ℕ) : Type 0 where
  pub halfway : List ℕ
  pub offered : ℕ
  pub tables : t' ≡ linked l m r (joint_of t l m) t
  pub left : Added q (left_is t' l) (left_key t' l r) h halfway offered
  pub right : Added offered (right_is t' l r) (right_key t' l r) halfway h' c

-- an offer is taken: if it is stale, nothing happens
pub record Taken (q l m r : ℕ) (t t' h h' : List ℕ) (c : ℕ) : Type 0 where
  pub live : is_live t l m r ≡ true → Joining q l m r t t' h h' c
  pub stale : is_live t l m r ≡ false → (t' ≡ t) × (h' ≡ h) × (c ≡ q)

-- of the first i neighbouring pairs of seeds, those that are admitted wait in the queue, and nothing else
pub record Offering (f : ℕ → Stats) (n i : ℕ) (h : List ℕ) (q : ℕ) : Type 0 where
  pub most : q ≤ i
  pub heap : Heap h q
  pub count : q + pairs (admitted f) (cuts_from i (n - i)) ≡ pairs (admitted f) (cuts_from 0 n)
  pub all : (x : ℕ) → x < i → admitted f x (x + 1) (x + 2) ≡ true → 0 < many h q (code (saving f x (x + 1) (x + 2)) x (x + 1) (x + 2))
  pub only : (k : ℕ) → 0 < many h q k → (x : ℕ) × (x + 2 ≤ n) × (admitted f x (x + 1) (x + 2) ≡ true) × (k ≡ code (saving f x (x + 1) (x + 2)) x (x + 1) (x + 2))

-- ---- the whole: n seeds with the statistics f

-- the cuts of the segments that the plain rule ends with, and its offers
unfoldable pub cuts_of : (ℕ → Stats) → ℕ → List ℕ
cuts_of f n = merged (admitted f) (saving f) (cuts_from 0 n)

unfoldable pub offers_of : (ℕ → Stats) → ℕ → ℕ
offers_of f n = offers (admitted f) (saving f) (cuts_from 0 n)

-- the records lead from 0 through these cuts, and each segment has its statistics
pub record Merged (f : ℕ → Stats) (n : ℕ) (t : List ℕ) : Type 0 where
  pub rest : List ℕ
  pub first : cuts_of f n ≡ 0 ∷ rest
  pub cuts : Chain (next t) (cuts_of f n)
  pub stats : (l m : ℕ) → next t l ≡ m → 0 < m → stat_at t l ≡ segment_of f l m
