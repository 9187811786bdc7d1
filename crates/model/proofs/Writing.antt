-- What a walk writes: the 32-bit shift, a lent slice with its front written over, and what a loop has written so far.
-- Assumes nothing.
use mathlib.Core.Path.{◌≡◌, refl, sym, ap, ◌∙◌}
use mathlib.Core.List.{List, [], ◌∷◌, ◌++◌, append_assoc}
use Prim.Native.Nat.{ℕ, zero, suc, ◌+◌, ◌-◌, ◌%◌, ◌<◌, ◌≤◌}
use native.Mathlib.Nat.{mod-eq_of_lt, add-suc}
use native.Mathlib.Omega.{arith}
use lib.ListN.{length, get_or, take, drop, set, length-append, length-drop}
use lib.Seq.{sets, length-sets, drop-cons, set_at, take_all, take-add, length-take-le, drop-append_seam, take-append_seam}
use Rattle.model.specs.Lists.{Rising, none, more, range, shift, moved, walk_of}
use Rattle.model.specs.Answers.{over, Walked}
use Rattle.model.proofs.Sets.{sets-append, sets_front}

-- ---- the 32-bit shift

pub length_moved : (b : ℕ) (xs : List ℕ) → length (moved b xs) ≡ length xs
unfolding moved
length_moved b [] = refl
length_moved b (x ∷ xs) = ap suc (length_moved b xs)

pub moved-append : (b : ℕ) (xs ys : List ℕ) → moved b (xs ++ ys) ≡ moved b xs ++ moved b ys
unfolding moved
moved-append b [] ys = refl
moved-append b (x ∷ xs) ys = rw (moved-append b xs ys)

pub moved-shift : {a c : ℕ} {xs : List ℕ} (b : ℕ) → b + c ≤ 4294967296 → Rising a c xs → moved b xs ≡ shift b xs
unfolding moved shift
moved-shift b h none = refl
moved-shift b h (more {x = x} l q r) =
    let f : (b + x) % 4294967296 ≡ b + x = mod-eq_of_lt (omega arith) in
    rw (f, moved-shift b h r)

pub moved-take : (b n : ℕ) (xs : List ℕ) → moved b (take n xs) ≡ take n (moved b xs)
unfolding moved
moved-take b zero xs = refl
moved-take b (suc n) [] = refl
moved-take b (suc n) (x ∷ xs) = rw (moved-take b n xs)

pub moved-drop : (b n : ℕ) (xs : List ℕ) → moved b (drop n xs) ≡ drop n (moved b xs)
unfolding moved
moved-drop b zero xs = refl
moved-drop b (suc n) [] = refl
moved-drop b (suc n) (x ∷ xs) = moved-drop b n xs

-- a walk of a list that does not pass 2^32, counted from b
pub moved_walk : {a c : ℕ} {xs : List ℕ} (b : ℕ) → b + c ≤ 4294967296 → Rising a c xs → (k n : ℕ) → moved b (walk_of xs k n) ≡ walk_of (shift b xs) k n
moved_walk {xs = xs} b h r k n = moved-take b n (drop k xs) ∙ ap (take n) (moved-drop b k xs ∙ ap (drop k) (moved-shift b h r))

-- numbers counted from first are positions counted from base
pub moved-range : {first : ℕ} (base s a n : ℕ) → first ≡ (base + s) % 4294967296 → moved first (range a n) ≡ moved base (range (s + a) n)
unfolding moved range
moved-range base s a zero e = refl
moved-range {first} base s a (suc n) e =
    let q : (first + a) % 4294967296 ≡ (base + (s + a)) % 4294967296 = omega arith in
    rw (q, moved-range base s (suc a) n e, add-suc)

-- ---- the front written over

pub over_none : {A : Type 0} (xs : List A) → over [] xs ≡ xs
unfolding over
over_none xs = refl

pub over-length : {A : Type 0} (front xs : List A) → length front ≤ length xs → length (over front xs) ≡ length xs
unfolding over
over-length front xs h = simp (length-append, length-drop) (omega arith)

pub over-take : {A : Type 0} (front xs : List A) → take (length front) (over front xs) ≡ front
unfolding over
over-take front xs = take-append_seam front (drop (length front) xs)

pub over-drop : {A : Type 0} (front xs : List A) → drop (length front) (over front xs) ≡ drop (length front) xs
unfolding over
over-drop front xs = drop-append_seam front (drop (length front) xs)

-- one more is written behind the front
pub over-next : {A : Type 0} (front xs : List A) (i : ℕ) (v : A) → length front ≡ i → i < length xs → set (over front xs) i v ≡ over (front ++ (v ∷ [])) xs
unfolding over
over-next front xs i v e h =
    let s : length (front ++ (v ∷ [])) ≡ suc i = length-append front (v ∷ []) ∙ omega arith in
    rw (s, e, drop-cons xs i v h) (set_at front (get_or xs i v) (drop (suc i) xs) v i e ∙ sym (append_assoc front (v ∷ []) (drop (suc i) xs)))

-- ---- what a loop has written so far

-- the first `done` of rows stand from at on, counted from base
pub record Filled (base at : ℕ) (rows before after : List ℕ) (done : ℕ) : Type 0 where
  pub within : done ≤ length rows
  pub room : at + done ≤ length before
  pub holds : after ≡ sets before at (moved base (take done rows))

pub filled_start : (base at : ℕ) (rows before : List ℕ) → at ≤ length before → Filled base at rows before before 0
unfolding moved
filled_start base at rows before h = record { within = omega arith; room = omega arith; holds = refl }

module _ {base at : ℕ} {rows before after : List ℕ} {done : ℕ} (f : Filled base at rows before after done) where
  pub filled_length : length after ≡ length before
  filled_length = rw f.holds (length-sets before at (moved base (take done rows)))

  written-length : length (moved base (take done rows)) ≡ done
  written-length = length_moved base (take done rows) ∙ length-take-le done rows f.within

  -- more is written behind it
  pub filled_more : (vs rest : List ℕ) → drop done rows ≡ vs ++ rest → at + done + length vs ≤ length before → Filled base at rows before (sets after (at + done) (moved base vs)) (done + length vs)
  filled_more vs rest e h =
      let n : length rows - done ≡ length vs + length rest = sym (length-drop done rows) ∙ ap length e ∙ length-append vs rest in
      let t : take (done + length vs) rows ≡ take done rows ++ vs = rw (take-add, e, take-append_seam) in
      record {
        within = omega (arith, f.within);
        room = omega arith;
        holds = rw (t, moved-append, sets-append, written-length, f.holds);
      }

  -- one more
  pub filled_next : {k v : ℕ} (x : ℕ) → done < length rows → get_or rows done 0 ≡ x → k ≡ at + done → k < length before → v ≡ (base + x) % 4294967296 → Filled base at rows before (set after k v) (done + 1)
  unfolding moved
  filled_next x l g e h q = rw (e, q, ← g) (filled_more (get_or rows done 0 ∷ []) (drop (suc done) rows) (drop-cons rows done 0 l) (omega arith))

  -- all of them
  pub filled_whole : length rows ≤ done → after ≡ sets before at (moved base rows)
  filled_whole h = rw (take_all done rows h) at f.holds

-- ---- a walk

-- that writes nothing
pub walks_none : {rows : List ℕ} (xs : List ℕ) → rows ≡ [] → Walked rows xs xs 0
walks_none xs e = rw e (record { written = sym (over_none xs); number = refl })

-- the values ws were written from 0 on
pub walked : (base : ℕ) (rows ws : List ℕ) {before out : List ℕ} {n : ℕ} → rows ≡ ws → out ≡ sets before 0 (moved base ws) → length ws ≡ n → n ≤ length before → Walked (moved base rows) before out n
walked base rows ws {before} {out} {n} q e l h =
    let size : length (moved base ws) ≡ n = length_moved base ws ∙ l in
    rw q (record { written = e ∙ sets_front (moved base ws) before (omega arith); number = sym size })

module _ {base : ℕ} {rows before after : List ℕ} {done : ℕ} (f : Filled base 0 rows before after done) where
  -- nothing is left to write
  pub filled_all : drop done rows ≡ [] → Walked (moved base rows) before after done
  filled_all e =
      let n : length rows - done ≡ 0 = sym (length-drop done rows) ∙ ap length e in
      walked base rows rows refl (filled_whole f (omega arith)) (omega (arith, f.within)) (omega (arith, f.room))

  -- of as many as fit
  pub filled_end : drop done rows ≡ [] → Walked (moved base (take (length before) rows)) before after done
  filled_end e =
      let n : length rows - done ≡ 0 = sym (length-drop done rows) ∙ ap length e in
      rw (take_all (length before) rows (omega (arith, f.room))) (filled_all e)

  -- or no room
  pub filled_full : length before ≤ done → Walked (moved base (take (length before) rows)) before after done
  filled_full h =
      let e : length before ≡ done = omega (arith, f.room) in
      walked base (take (length before) rows) (take done rows) (rw e) f.holds (length-take-le done rows f.within) (omega arith)
