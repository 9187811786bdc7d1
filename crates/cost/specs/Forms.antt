-- The forms of a segment and of a whole row set with their costs, and the cheapest: document 01, "Costs".
-- Assumes nothing.
use Rattle.std.specs.Prelude.{Bool, true, false, List, [], ◌∷◌, ◌++◌, ℕ, ◌+◌, ◌-◌, ◌*◌, ◌<◌, eqb, leb, ltb}
use Rattle.model.specs.Tests.{pick}
use Rattle.bitmap.specs.Body.{groups_of, bitmap_length}
use Rattle.stats.specs.Statistics.{Sound, span_of, holes_of}
use Rattle.stats.specs.declared.Stats.{Stats}
use Rattle.cost.specs.Sizes.{depth_of}
use Rattle.cost.specs.declared.Form.{Form}

-- ---- the forms

-- a form with a depth of n items
unfoldable pub items_form : ℕ → Bool → ℕ → ℕ → Form
items_form tag trimmed bytes n = record { tag = tag; trimmed = trimmed; bytes = bytes; depth = depth_of n; words = 0 }

-- a bitmap of s positions after its header
unfoldable pub bitmap_form : Bool → ℕ → ℕ → Form
bitmap_form trimmed header s = record { tag = 6; trimmed = trimmed; bytes = header + bitmap_length s; depth = depth_of (groups_of s); words = 4 }

unfoldable pub dense_form : Form
dense_form = record { tag = 1; trimmed = false; bytes = 0; depth = 0; words = 0 }

-- ---- the least

-- code order: dense 0, lists (tags 2, 3) 1, runs (4, 5) 2, missing (7, 8) 3, bitmap (6) 4, segmented 5
unfoldable pub order_of : ℕ → ℕ
order_of tag = pick (leb tag 1) 0 (pick (leb tag 3) 1 (pick (leb tag 5) 2 (pick (leb tag 6) 4 (pick (leb tag 8) 3 5))))

-- whether the first place where two lists differ has the lesser number in the first
unfoldable pub lex : List ℕ → List ℕ → Bool
lex [] ys = false
lex (x ∷ xs) [] = false
lex (x ∷ xs) (y ∷ ys) = pick (ltb x y) true (pick (ltb y x) false (lex xs ys))

-- bytes, depth, words, code order, plain before trimmed
unfoldable pub key_of : Form → List ℕ
key_of f = f.bytes ∷ f.depth ∷ f.words ∷ order_of f.tag ∷ pick f.trimmed 1 0 ∷ []

unfoldable pub lesser : Form → Form → Form
lesser f g = pick (lex (key_of g) (key_of f)) g f

-- a form, and whether it may be taken
pub record Offer : Type 0 where
  pub allowed : Bool
  pub form : Form

abbrev pub given : Bool → Form → Offer
given t f = record { allowed = t; form = f }

abbrev pub always : Form → Offer
always f = given true f

-- the least of a form and those that may be taken
unfoldable pub least : Form → List Offer → Form
least f [] = f
least f (o ∷ os) = least (pick o.allowed (lesser f o.form) f) os

-- ---- the cheapest local form, and the cheapest whole form over a span

unfoldable pub local_offers : Stats → List Offer
local_offers s =
    given (eqb (holes_of s) 0) dense_form
    ∷ always (items_form 4 false (6 * s.runs) s.runs)
    ∷ always (items_form 7 false (2 * holes_of s) (holes_of s))
    ∷ always (bitmap_form false 0 (span_of s))
    ∷ []

unfoldable pub local_form : Stats → Form
local_form s = least (items_form 3 false (2 * s.count) s.count) (local_offers s)

-- the bytes of a segment: those of its cheapest local form
unfoldable pub payload : Stats → ℕ
payload s = (local_form s).bytes

-- the runs of a whole row set: with 16-bit starts where every position has 16 bits, else with 32-bit ones
unfoldable pub runs_form : Bool → ℕ → Form
runs_form narrow n = pick narrow (items_form 4 false (4 + 6 * n) n) (items_form 5 false (4 + 8 * n) n)

-- those that count from position 0, and those that count from the first row
unfoldable pub plain_offers : Stats → ℕ → List Offer
plain_offers s span =
    given (eqb s.count span) dense_form
    ∷ given (leb s.last 65535) (items_form 3 false (2 * s.count) s.count)
    ∷ always (runs_form (leb s.last 65535) s.runs)
    ∷ always (bitmap_form false 4 span)
    ∷ given (leb span 65535) (items_form 7 false (4 + 2 * (span - s.count)) (span - s.count))
    ∷ []

unfoldable pub trimmed_offers : Stats → List Offer
trimmed_offers s =
    always (bitmap_form true 12 (span_of s)) ∷ given (leb (span_of s) 65535) (items_form 8 true (8 + 2 * holes_of s) (holes_of s)) ∷ []

unfoldable pub whole_form : Stats → ℕ → Form
whole_form s span = least (items_form 2 false (4 * s.count) s.count) (plain_offers s span ++ trimmed_offers s)

-- statistics of positions below a span that fits
pub record Over (s : Stats) (span : ℕ) : Type 0 where
  pub sound : Sound s
  pub in_span : s.last < span
