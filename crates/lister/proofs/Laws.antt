-- Laws of the bytes at hand: a whole record lies inside, and one that waits for its bytes is shorter than the buffer.
-- Assumes nothing.
use mathlib.Core.Path.{◌≡◌, refl, sym, ap}
use mathlib.Core.Bool.{true, false}
use mathlib.Core.Logic.{⊎_elim}
use mathlib.Core.List.{List}
use Prim.Native.Nat.{ℕ, suc, ◌+◌, ◌-◌, ◌≤◌, ◌<◌}
use native.Mathlib.Omega.{arith}
use lib.Dec.{ltb}
use lib.ListN.{length, take, drop, length-drop}
use lib.Seq.{length-take-le}
use borrow.Author.Tests.{ltb-true, ltb-false}
use Rattle.model.specs.Tests.{pick}
use Rattle.model.proofs.Tests.{either, never, last_or_before}
use Rattle.listing.specs.Records.{be, sized, next_after, next_of}
use Rattle.listing.proofs.Sizes.{sized_bounds, record_fits}
use Rattle.listing.specs.declared.records.Next.{Next}
use Rattle.listing.specs.declared.records.Next.TheVariants as next
use Rattle.lister.specs.Window.{whole_of, stops_of, part, ends, Whole, Passed}

whole_after : (have n : ℕ) → whole_of (next_after have n) ≤ have + 4
unfolding next_after whole_of pick
whole_after have n =
    ⊎_elim (λ (e : sized n ≡ true).
    ⊎_elim (λ (l : ltb have n ≡ true). rw (e, l) (omega arith)) (λ (l : ltb have n ≡ false). rw (e, l) (omega (arith, ltb-false have n l))) (either (ltb have n)))
    (λ (e : sized n ≡ false). rw e (omega arith))
    (either (sized n))

pub whole_inside : (xs : List ℕ) → whole_of (next_of xs) ≤ length xs
unfolding next_of whole_of pick
whole_inside xs =
    ⊎_elim (λ (e : ltb (length xs) 4 ≡ true). rw e (omega arith))
    (λ (e : ltb (length xs) 4 ≡ false). rw e (omega (arith, ltb-false (length xs) 4 e, whole_after (length xs - 4) (be 4 xs 0))))
    (either (ltb (length xs) 4))

pub is_whole : {xs : List ℕ} (n : Next) → n ≡ next_of xs → Whole xs (whole_of n)
is_whole n e = record { is = ap whole_of e; inside = rw e (whole_inside _) }

-- a whole record at lo..hi of a buffer, with the four bytes of its length, is more than eight bytes and ends at hi or before it
pub record_within : (xs : List ℕ) (lo hi n : ℕ) → next.Record n ≡ next_of (take (hi - lo) (drop lo xs)) → lo ≤ hi → hi ≤ length xs → (4 < n) × (lo + 4 + n ≤ hi)
record_within xs lo hi n e l h =
    let size : length (take (hi - lo) (drop lo xs)) ≡ hi - lo = length-take-le (hi - lo) (drop lo xs) (rw length-drop (omega arith)) in
    let fit = record_fits (take (hi - lo) (drop lo xs)) n (sym e) in
    let bounds = sized_bounds n fit.sizes in
    (omega (arith, bounds), omega (arith, bounds, fit.inside, size))

waits_after : (have n : ℕ) → stops_of (next_after have n) ≡ false → have < 65540
unfolding next_after stops_of pick
waits_after have n h =
    ⊎_elim (λ (e : sized n ≡ true).
    ⊎_elim (λ (l : ltb have n ≡ true). omega (arith, ltb-true have n l, sized_bounds n e)) (λ (l : ltb have n ≡ false). never refl (rw (e, l) at h)) (either (ltb have n)))
    (λ (e : sized n ≡ false). never refl (rw e at h))
    (either (sized n))

pub waits_short : (xs : List ℕ) → stops_of (next_of xs) ≡ false → length xs < 65544
unfolding next_of stops_of pick
waits_short xs h =
    ⊎_elim (λ (e : ltb (length xs) 4 ≡ true). omega (arith, ltb-true (length xs) 4 e))
    (λ (e : ltb (length xs) 4 ≡ false). omega (arith, ltb-false (length xs) 4 e, waits_after (length xs - 4) (be 4 xs 0) (rw e at h)))
    (either (ltb (length xs) 4))

-- a part of the buffer in which a record waits leaves room for more
pub waits_part : (xs : List ℕ) (lo hi : ℕ) → hi ≤ length xs → stops_of (next_of (take (hi - lo) (drop lo xs))) ≡ false → hi - lo < 65544
waits_part xs lo hi h e =
    let size : length (take (hi - lo) (drop lo xs)) ≡ hi - lo = length-take-le (hi - lo) (drop lo xs) (rw length-drop (omega arith)) in
    omega (arith, size, waits_short (take (hi - lo) (drop lo xs)) e)

-- ---- the loop that lists

pub passed_none : (xs : List ℕ) (from hi before : ℕ) → Passed xs from hi (before - before) from
unfolding ends
passed_none xs from hi before =
    let none : before - before ≡ 0 = omega arith in
    rw none (record { is = refl; each = λ j h. absurd (omega arith) })

-- one record more, from lo on
passed_one : (xs : List ℕ) (from hi count lo n : ℕ) → Passed xs from hi count lo → 4 < n → n ≡ whole_of (next_of (part xs lo hi)) → Passed xs from hi (suc count) (lo + n)
unfolding ends
passed_one xs from hi count lo n p h e =
    let long : 4 < whole_of (next_of (part xs (ends xs hi from count) hi)) = rw (← p.is, ← e) h in
    record {
      is = rw (← p.is, ← e) refl;
      each = λ j l. ⊎_elim (λ q. rw q long) (λ b. p.each j b) (last_or_before l);
    }

-- the loop's turn: it counts the record and goes on at `to`, behind it
pub passed_next : {xs : List ℕ} {from hi before lo k n more to : ℕ} → Passed xs from hi (k - before) lo → before ≤ k → next.Record n ≡ next_of (take (hi - lo) (drop lo xs)) → lo ≤ hi → hi ≤ length xs → more ≡ k + 1 → to ≡ lo + (n + 4) → Passed xs from hi (more - before) to
unfolding part whole_of
passed_next {xs = xs} {from = from} {hi = hi} {before = before} {lo = lo} {k = k} {n = n} {more = more} p h e l i m t =
    let inside = record_within xs lo hi n e l i in
    let one : more - before ≡ suc (k - before) = omega arith in
    rw (one, t) (passed_one xs from hi (k - before) lo (n + 4) p (omega (arith, inside)) (ap whole_of e))

-- the bytes of each record passed over, with those of its length, are those of a whole record there
pub passed_whole : (xs : List ℕ) (from hi j : ℕ) → Whole (part xs (ends xs hi from j) hi) (ends xs hi from (suc j) - ends xs hi from j)
unfolding ends
passed_whole xs from hi j =
    let at = ends xs hi from j in
    let size : at + whole_of (next_of (part xs at hi)) - at ≡ whole_of (next_of (part xs at hi)) = omega arith in
    rw size (is_whole (next_of (part xs at hi)) refl)

pub record Standing (xs : List ℕ) (from hi before first size lo at k : ℕ) : Type 0 where
  pub counted : before ≤ k
  pub passed : Passed xs from hi (k - before) lo
  pub forward : from ≤ lo
  pub inside : lo ≤ hi
  pub records : k + (hi - lo) ≤ before + (hi - from)
  pub fits : at ≤ size
  pub same : size ≡ first

-- ---- the loop that reads: each record that is listed, and each byte at hand, is one of the bytes read

pub record All (held size first room lo hi at k total : ℕ) : Type 0 where
  pub kept : size ≡ held
  pub whole : size ≡ 131072
  pub forward : lo ≤ hi
  pub inside : hi ≤ size
  pub records : k + (hi - lo) ≤ total
  pub fits : at ≤ room
  pub same : room ≡ first
  pub line : 128 ≤ room
