-- Document 01's "Accepted" on one page: for each tag, which bytes are a body over a span. A header states what the local form behind it
-- is asked with; the local forms, over a local span and a stated count, are
--   dense_accepts    no bytes, and the count is the span
--   list_accepts w   as many items of w bytes as the count, rising below the span
--   runs_accepts w   whole entries, runs of length ≥ 1 that don't touch and end within the span and 256^w, rows-before exact, lengths adding up to the count
--   bitmap_accepts   exact length, bits past the span zero, rows-before exact, as many bits as the count
--   missing_accepts  span ≤ 65,535, as many items of 2 bytes as holes, rising below the span
-- and each asks 1 ≤ count ≤ span and count ≤ 65,535 (`counted`).
-- Assumes nothing.
use Rattle.std.specs.Prelude.{Bool, false, List, ℕ, ◌+◌, ◌-◌, ◌*◌, ◌/◌, eqb, leb, length, get_or, drop}
use Rattle.fields.specs.Le.{le}
use Rattle.model.specs.Tests.{both, pick}
use Rattle.model.specs.Lists.{has}
use Rattle.lists.specs.Lists.{dense_accepts, list_accepts}
use Rattle.runs.specs.Runs.{runs_accepts}
use Rattle.bitmap.specs.Body.{bitmap_accepts, bitmap_names}
use Rattle.missing.specs.Missing.{missing_accepts, missing_names}
use Rattle.segmented.specs.Segmented.{segmented_accepts}

-- 1 DENSE: empty, count = span ≤ 65,535
unfoldable pub dense_body : ℕ → List ℕ → Bool
dense_body span xs = dense_accepts xs span span

-- 2 LIST32 (w = 4), 3 LIST16 (w = 2): positions, as many as there is room for in the bytes
unfoldable pub list_body : ℕ → ℕ → List ℕ → Bool
list_body w span xs = list_accepts w xs span (length xs / w)

-- 4 RUNS16 (w = 2), 5 RUNS32 (w = 4): count u16, runs u16, and as many entries of w + 4 bytes
unfoldable pub runs_body : ℕ → ℕ → List ℕ → Bool
runs_body w span xs = both (eqb (length xs) (4 + le 2 xs 2 * (w + 4))) (runs_accepts w (drop 4 xs) span (le 2 xs 0))

-- a trimmed form: base + local span ≤ span, the local form accepted, both ends of what it names present
unfoldable pub trimmed_to : ℕ → ℕ → ℕ → Bool → List ℕ → Bool
trimmed_to span base local accepted named = both (leb (base + local) span) (both accepted (both (has named 0) (has named (local - 1))))

-- 6 BITMAP: count u16, flag 0 or 1, zero; if 1: base u32, local span u32
unfoldable pub trimmed_bitmap_body : ℕ → List ℕ → Bool
trimmed_bitmap_body span xs =
    both (leb 12 (length xs))
    (trimmed_to span (le 4 xs 4) (le 4 xs 8) (bitmap_accepts (drop 12 xs) (le 4 xs 8) (le 2 xs 0)) (bitmap_names (drop 12 xs) (le 4 xs 8)))

unfoldable pub bitmap_body : ℕ → List ℕ → Bool
bitmap_body span xs =
    both (leb 4 (length xs))
    (both (eqb (get_or xs 3 0) 0)
    (pick (eqb (get_or xs 2 0) 1) (trimmed_bitmap_body span xs) (both (eqb (get_or xs 2 0) 0) (bitmap_accepts (drop 4 xs) span (le 2 xs 0)))))

-- 7 MISSING: count u16, zero u16
unfoldable pub missing_body : ℕ → List ℕ → Bool
missing_body span xs = both (leb 4 (length xs)) (both (eqb (le 2 xs 2) 0) (missing_accepts (drop 4 xs) span (le 2 xs 0)))

-- 8 TRIMMED_MISSING: base u32, local span u16, count u16
unfoldable pub trimmed_missing_body : ℕ → List ℕ → Bool
trimmed_missing_body span xs =
    both (leb 8 (length xs))
    (trimmed_to span (le 4 xs 0) (le 2 xs 4) (missing_accepts (drop 8 xs) (le 2 xs 4) (le 2 xs 6)) (missing_names (drop 8 xs) (le 2 xs 4) (le 2 xs 4 - le 2 xs 6)))

-- 9 SEGMENTED: `segmented_accepts`, a directory (at least one segment, rising, not overlapping, each with start + its span ≤ span, tags 1, 3, 4, 6, 7
-- only, ordinals and counts adding up, payloads in order without gaps to the body's end) and each part accepted as its entry states it.
-- No other tag has an accepted body
unfoldable pub accepts : ℕ → ℕ → List ℕ → Bool
accepts tag span xs =
    pick (eqb tag 1) (dense_body span xs)
    (pick (eqb tag 2) (list_body 4 span xs)
    (pick (eqb tag 3) (list_body 2 span xs)
    (pick (eqb tag 4) (runs_body 2 span xs)
    (pick (eqb tag 5) (runs_body 4 span xs)
    (pick (eqb tag 6) (bitmap_body span xs)
    (pick (eqb tag 7) (missing_body span xs)
    (pick (eqb tag 8) (trimmed_missing_body span xs)
    (pick (eqb tag 9) (segmented_accepts span xs) false))))))))
