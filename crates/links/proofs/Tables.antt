-- The records of cuts in the workspace: what is read after a write, and what a write leaves alone.
-- Assumes nothing.
use mathlib.Core.Path.{◌≡◌, sym, ◌∙◌}
use mathlib.Core.Bool.{Bool}
use mathlib.Core.List.{List}
use Prim.Native.Nat.{ℕ, ◌+◌, ◌*◌, ◌<◌, ◌≤◌}
use native.Mathlib.Omega.{arith}
use lib.ListN.{length, take, length-set, length-take, get_or-eq_default}
use lib.Seq.{get_or-set_same, get_or-set_other, get_or-take, take-set-lt, drop-set-lt, length-take-le}
use Rattle.stats.specs.declared.Stats.{Stats}
use Rattle.stats.specs.Statistics.{Neighbours}
use Rattle.links.specs.Links.{Cuts}
use Rattle.links.specs.Tables.{base, records, waiting, field, next, prev, stat_at, is_live, put, put_stat, linked}

-- ---- one word

pub put-length : (t : List ℕ) (x k v : ℕ) → length (put t x k v) ≡ length t
unfolding put
put-length t x k v = simp length-set

pub put_here : (t : List ℕ) (x k v : ℕ) → x * 8 + k < length t → field (put t x k v) x k ≡ v
unfolding put field
put_here t x k v h = get_or-set_same t (x * 8 + k) v 0 h

pub put_else : (t : List ℕ) (x k v y j : ℕ) → (y * 8 + j ≡ x * 8 + k → ⊥) → field (put t x k v) y j ≡ field t y j
unfolding put field
put_else t x k v y j ne = get_or-set_other t (x * 8 + k) (y * 8 + j) v 0 ne

-- ---- the records, and what is behind them

pub records-length : (n : ℕ) (w : List ℕ) → base n ≤ length w → length (records n w) ≡ base n
records-length n w h = length-take-le (base n) w h

pub records-field : (n : ℕ) (w : List ℕ) (x k : ℕ) → x ≤ n → k < 8 → field w x k ≡ field (records n w) x k
unfolding field
records-field n w x k h l = sym (get_or-take (base n) w (x * 8 + k) 0 (omega arith))

pub records_stat : (n : ℕ) (w : List ℕ) (x : ℕ) → x ≤ n → stat_at w x ≡ stat_at (records n w) x
unfolding stat_at
records_stat n w x h = λ i. record {
  first = records-field n w x 2 h (omega arith) i;
  last = records-field n w x 3 h (omega arith) i;
  count = records-field n w x 4 h (omega arith) i;
  runs = records-field n w x 5 h (omega arith) i;
}

-- the statistics of a pair as they are read
pub read_pair : (n : ℕ) (w : List ℕ) (l m r : ℕ) (a b : Stats) → Cuts n l m r → a ≡ stat_at w l → b ≡ stat_at w m → (a ≡ stat_at (records n w) l) × (b ≡ stat_at (records n w) m)
read_pair n w l m r a b c ea eb = (ea ∙ records_stat n w l (omega arith), eb ∙ records_stat n w m (omega arith))

pub read_neighbours : (n : ℕ) (w : List ℕ) (l m r : ℕ) (a b : Stats) → Cuts n l m r → a ≡ stat_at w l → b ≡ stat_at w m → Neighbours (stat_at (records n w) l) (stat_at (records n w) m) → Neighbours a b
read_neighbours n w l m r a b c ea eb k = let e = read_pair n w l m r a b c ea eb in rw (e.0, e.1) k

-- what the test of an offer answered is so of the records
pub read_live : (n : ℕ) (w : List ℕ) (l m r : ℕ) (b u : Bool) → Cuts n l m r → b ≡ is_live w l m r → b ≡ u → is_live (records n w) l m r ≡ u
unfolding is_live
read_live n w l m r b u c e f =
    let same : is_live w l m r ≡ is_live (records n w) l m r = rw (records-field n w l 0 (omega arith) (omega arith), records-field n w m 0 (omega arith) (omega arith)) in
    sym same ∙ sym e ∙ f

pub records_far : (n : ℕ) (w : List ℕ) (x k : ℕ) → n < x → field (records n w) x k ≡ 0
unfolding field
records_far n w x k h = get_or-eq_default (take (base n) w) 0 (simp length-take (omega arith))

pub put-records : (n : ℕ) (w : List ℕ) (x k v : ℕ) → x ≤ n → k < 8 → records n (put w x k v) ≡ put (records n w) x k v
unfolding put
put-records n w x k v h l = take-set-lt (base n) w (x * 8 + k) v (omega arith)

pub put-waiting : (n : ℕ) (w : List ℕ) (x k v : ℕ) → x ≤ n → k < 8 → waiting n (put w x k v) ≡ waiting n w
unfolding put
put-waiting n w x k v h l = drop-set-lt (base n) w (x * 8 + k) v (omega arith)

-- ---- statistics

-- a word that holds no statistic
pub put_stat_lem : (t : List ℕ) (x k v y : ℕ) → k < 2 → stat_at (put t x k v) y ≡ stat_at t y
unfolding stat_at
put_stat_lem t x k v y h = λ i. record {
  first = put_else t x k v y 2 (λ e. omega arith) i;
  last = put_else t x k v y 3 (λ e. omega arith) i;
  count = put_else t x k v y 4 (λ e. omega arith) i;
  runs = put_else t x k v y 5 (λ e. omega arith) i;
}

module _ (t : List ℕ) (x : ℕ) (s : Stats) where
  pub stat_length : length (put_stat t x s) ≡ length t
  unfolding put_stat
  stat_length = simp put-length

  stat_else : (y j : ℕ) → (y * 8 + j ≡ x * 8 + 2 → ⊥) → (y * 8 + j ≡ x * 8 + 3 → ⊥) → (y * 8 + j ≡ x * 8 + 4 → ⊥) → (y * 8 + j ≡ x * 8 + 5 → ⊥) → field (put_stat t x s) y j ≡ field t y j
  unfolding put_stat
  stat_else y j a b c d =
      let u = put t x 2 s.first in
      let v = put u x 3 s.last in
      let z = put v x 4 s.count in
      put_else z x 5 s.runs y j d ∙ put_else v x 4 s.count y j c ∙ put_else u x 3 s.last y j b ∙ put_else t x 2 s.first y j a

  -- a word of no statistic, and the statistics of another cut, stay
  pub stat_link : (y j : ℕ) → j < 2 → field (put_stat t x s) y j ≡ field t y j
  stat_link y j h = stat_else y j (λ e. omega arith) (λ e. omega arith) (λ e. omega arith) (λ e. omega arith)

  pub stat_other : (y : ℕ) → (y ≡ x → ⊥) → stat_at (put_stat t x s) y ≡ stat_at t y
  unfolding stat_at
  stat_other y ne =
      let keeps : (j : ℕ) → j < 8 → field (put_stat t x s) y j ≡ field t y j =
      λ j h. stat_else y j (λ e. ne (omega arith)) (λ e. ne (omega arith)) (λ e. ne (omega arith)) (λ e. ne (omega arith)) in
      λ i. record { first = keeps 2 (omega arith) i; last = keeps 3 (omega arith) i; count = keeps 4 (omega arith) i; runs = keeps 5 (omega arith) i }

  pub stat_here : x * 8 + 8 ≤ length t → stat_at (put_stat t x s) x ≡ s
  unfolding stat_at put_stat
  stat_here h =
      let u = put t x 2 s.first in
      let v = put u x 3 s.last in
      let z = put v x 4 s.count in
      let lu : length u ≡ length t = put-length t x 2 s.first in
      let lv : length v ≡ length t = put-length u x 3 s.last ∙ lu in
      let lz : length z ≡ length t = put-length v x 4 s.count ∙ lv in
      let a : field (put z x 5 s.runs) x 2 ≡ s.first =
      put_else z x 5 s.runs x 2 (λ e. omega arith) ∙ put_else v x 4 s.count x 2 (λ e. omega arith) ∙ put_else u x 3 s.last x 2 (λ e. omega arith) ∙ put_here t x 2 s.first (omega arith) in
      let b : field (put z x 5 s.runs) x 3 ≡ s.last =
      put_else z x 5 s.runs x 3 (λ e. omega arith) ∙ put_else v x 4 s.count x 3 (λ e. omega arith) ∙ put_here u x 3 s.last (omega arith) in
      let c : field (put z x 5 s.runs) x 4 ≡ s.count = put_else z x 5 s.runs x 4 (λ e. omega arith) ∙ put_here v x 4 s.count (omega arith) in
      let d : field (put z x 5 s.runs) x 5 ≡ s.runs = put_here z x 5 s.runs (omega arith) in
      λ i. record { first = a i; last = b i; count = c i; runs = d i }

pub stat_records : (n : ℕ) (w : List ℕ) (x : ℕ) (s : Stats) → x ≤ n → records n (put_stat w x s) ≡ put_stat (records n w) x s
unfolding put_stat
stat_records n w x s h =
    let k2 : 2 < 8 = omega arith in
    let k3 : 3 < 8 = omega arith in
    let k4 : 4 < 8 = omega arith in
    let k5 : 5 < 8 = omega arith in
    rw (put-records, put-records, put-records, put-records)

pub stat_waiting : (n : ℕ) (w : List ℕ) (x : ℕ) (s : Stats) → x ≤ n → waiting n (put_stat w x s) ≡ waiting n w
unfolding put_stat
stat_waiting n w x s h =
    let k2 : 2 < 8 = omega arith in
    let k3 : 3 < 8 = omega arith in
    let k4 : 4 < 8 = omega arith in
    let k5 : 5 < 8 = omega arith in
    rw (put-waiting, put-waiting, put-waiting, put-waiting)

-- ---- a join

pub linked-records : (n l m r : ℕ) (s : Stats) (w : List ℕ) → l < m → m < r → r ≤ n → records n (linked l m r s w) ≡ linked l m r s (records n w)
unfolding linked
linked-records n l m r s w lm mr rn =
    let k0 : 0 < 8 = omega arith in
    let k1 : 1 < 8 = omega arith in
    let ln : l ≤ n = omega arith in
    let mn : m ≤ n = omega arith in
    rw (stat_records, put-records, put-records, put-records)

pub linked-waiting : (n l m r : ℕ) (s : Stats) (w : List ℕ) → l < m → m < r → r ≤ n → waiting n (linked l m r s w) ≡ waiting n w
unfolding linked
linked-waiting n l m r s w lm mr rn =
    let k0 : 0 < 8 = omega arith in
    let k1 : 1 < 8 = omega arith in
    let ln : l ≤ n = omega arith in
    let mn : m ≤ n = omega arith in
    rw (stat_waiting, put-waiting, put-waiting, put-waiting)

module _ (l m r : ℕ) (s : Stats) (t : List ℕ) (lm : l < m) (mr : m < r) (long : r * 8 + 8 ≤ length t) where
  -- the links before the statistics are written
  abbrev ends : List ℕ
  ends = put (put t l 0 r) m 0 0

  ends_length : length ends ≡ length t
  ends_length = simp put-length

  linked-field : (x j : ℕ) → j < 2 → field (linked l m r s t) x j ≡ field (put ends r 1 l) x j
  unfolding linked
  linked-field x j h = stat_link (put ends r 1 l) l s x j h

  pub linked-length : length (linked l m r s t) ≡ length t
  unfolding linked
  linked-length = simp (stat_length, put-length)

  pub linked_left : next (linked l m r s t) l ≡ r
  linked_left =
      linked-field l 0 (omega arith) ∙ put_else ends r 1 l l 0 (λ e. omega arith) ∙ put_else (put t l 0 r) m 0 0 l 0 (λ e. omega arith) ∙ put_here t l 0 r (omega arith)

  pub linked_gone : next (linked l m r s t) m ≡ 0
  linked_gone = linked-field m 0 (omega arith) ∙ put_else ends r 1 l m 0 (λ e. omega arith) ∙ put_here (put t l 0 r) m 0 0 (omega (arith, put-length t l 0 r))

  pub linked-next : (x : ℕ) → (x ≡ l → ⊥) → (x ≡ m → ⊥) → next (linked l m r s t) x ≡ next t x
  linked-next x a b =
      linked-field x 0 (omega arith) ∙ put_else ends r 1 l x 0 (λ e. omega arith) ∙ put_else (put t l 0 r) m 0 0 x 0 (λ e. b (omega arith)) ∙ put_else t l 0 r x 0 (λ e. a (omega arith))

  pub linked_right : prev (linked l m r s t) r ≡ l
  linked_right = linked-field r 1 (omega arith) ∙ put_here ends r 1 l (omega (arith, ends_length))

  pub linked-prev : (x : ℕ) → (x ≡ r → ⊥) → prev (linked l m r s t) x ≡ prev t x
  linked-prev x a =
      linked-field x 1 (omega arith) ∙ put_else ends r 1 l x 1 (λ e. a (omega arith)) ∙ put_else (put t l 0 r) m 0 0 x 1 (λ e. omega arith) ∙ put_else t l 0 r x 1 (λ e. omega arith)

  pub linked_stat : stat_at (linked l m r s t) l ≡ s
  unfolding linked
  linked_stat = stat_here (put ends r 1 l) l s (omega (arith, put-length ends r 1 l, ends_length))

  pub linked_stats : (x : ℕ) → (x ≡ l → ⊥) → stat_at (linked l m r s t) x ≡ stat_at t x
  unfolding linked
  linked_stats x a =
      stat_other (put ends r 1 l) l s x a ∙ put_stat_lem ends r 1 l x (omega arith) ∙ put_stat_lem (put t l 0 r) m 0 0 x (omega arith) ∙ put_stat_lem t l 0 r x (omega arith)
