-- The local form missing: the positions of the span that are no rows, the holes, as a list of two-byte items.
-- Assumes nothing.
use Rattle.std.specs.Prelude.{◌≡◌, Bool, true, false, not, List, ℕ, ◌+◌, ◌-◌, ◌*◌, min, ltb, leb, eqb, length, drop}
use Rattle.std.proofs.lemmas.List.Edits.{sets}
use Rattle.model.specs.Tests.{both, pick}
use Rattle.model.specs.Lists.{counted, complement, range, moved}
use Rattle.model.specs.declared.Place.{Place}
use Rattle.search.specs.Search.{find, up_to}
use Rattle.lists.specs.Lists.{item, rises_below, list_layout, list_names, list_place}

unfoldable pub missing_layout : ℕ → List ℕ → List ℕ
missing_layout span xs = list_layout 2 (complement 0 span xs)

-- n rows, and so span - n holes
unfoldable pub missing_accepts : List ℕ → ℕ → ℕ → Bool
missing_accepts xs span n =
    both (leb span 65535) (both (counted span n) (both (eqb (length xs) ((span - n) * 2)) (rises_below (item 2 xs) span (span - n))))

-- the rows that h holes leave
unfoldable pub missing_names : List ℕ → ℕ → ℕ → List ℕ
missing_names xs span h = complement 0 span (list_names 2 xs h)

-- ---- the answers on any bytes

-- below a position stand the positions that are no holes, and it is a row where it is no hole
unfoldable pub besides : ℕ → Place → Place
besides p hole = record { below = p - hole.below; present = not hole.present }

unfoldable pub missing_place : List ℕ → ℕ → ℕ → ℕ → Place
missing_place xs span h p = pick (ltb p span) (besides p (list_place 2 xs h p)) (record { below = span - h; present = false })

-- the holes before row k: hole i stands before it exactly where it is at most k + i
unfoldable pub holes_before : List ℕ → ℕ → ℕ → ℕ
holes_before xs h k = find (up_to true (item 2 xs) k) 0 h

unfoldable pub missing_select : List ℕ → ℕ → ℕ → ℕ
missing_select xs h k = k + holes_before xs h k

-- the rows from row k on: what the holes after it leave
unfoldable pub missing_from : List ℕ → ℕ → ℕ → ℕ → List ℕ
missing_from xs span h k = complement (missing_select xs h k) span (drop (holes_before xs h k) (list_names 2 xs h))

-- ---- one stretch of a walk: the positions from pos up to end stand behind the first at, as many as fit; r stand there then
pub record Stretched (base pos end at : ℕ) (before after : List ℕ) (r : ℕ) : Type 0 where
  pub written : after ≡ sets before at (moved base (range pos (min (end - pos) (length before - at))))
  pub number : r ≡ at + min (end - pos) (length before - at)
