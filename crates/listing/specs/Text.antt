-- The bytes of the listing's lines.
-- Assumes nothing.
use Rattle.std.specs.Prelude.{◌≡◌, List, [], ◌∷◌, ◌++◌, ℕ, zero, suc, ◌+◌, ◌/◌, ◌%◌, ◌≤◌, eqb, length}
use Prim.Native.Char.{code}
use Prim.Native.String as text
use Rattle.std.proofs.lemmas.List.Edits.{sets}
use Rattle.model.specs.Tests.{pick}
use Rattle.listing.specs.declared.records.Figures.{Figures}
use Rattle.listing.specs.declared.records.Line.{Line}
use Rattle.listing.specs.declared.records.Line.TheVariants.{Listed, Refused, Broken, Version, End}

-- the bytes of an ASCII text
unfoldable pub ascii : text.String → List ℕ
ascii text.[] = []
ascii (text.◌∷◌ c s) = code c ∷ ascii s

-- the decimal digits of n with no zero in front, so none of 0; the lowest f of them
unfoldable pub digits : ℕ → ℕ → List ℕ
digits zero n = []
digits (suc f) n = pick (eqb n 0) [] (digits f (n / 10) ++ ((48 + n % 10) ∷ []))

-- a number as it is printed: the digits before the last, and the last; a 64-bit number has at most 20
unfoldable pub decimal : ℕ → List ℕ
decimal n = digits 19 (n / 10) ++ ((48 + n % 10) ∷ [])

-- the last k digits of n, zeros in front and all
unfoldable pub places : ℕ → ℕ → List ℕ
places zero n = []
places (suc k) n = places k (n / 10) ++ ((48 + n % 10) ∷ [])

-- numbers, each with a space before it
unfoldable pub spaced : List ℕ → List ℕ
spaced [] = []
spaced (n ∷ ns) = (32 ∷ decimal n) ++ spaced ns

-- the figures of an accepted record, in the header's order
unfoldable pub figures_text : Figures → List ℕ
figures_text f = spaced (f.tag ∷ f.span ∷ f.rows ∷ f.holes ∷ f.bytes ∷ [])

-- the header
unfoldable pub header_text : List ℕ
header_text = ascii "k tag span rows holes bytes\n"

-- a line, with its end, where k records stand before it
unfoldable pub text_of : Line → ℕ → List ℕ
text_of (Listed f) k = decimal k ++ figures_text f ++ ascii "\n"
text_of Refused k = decimal k ++ ascii " refused\n"
text_of Broken k = ascii "broken " ++ decimal k ++ ascii "\n"
text_of Version k = ascii "version\n"
text_of End k = ascii "end " ++ decimal k ++ ascii "\n"

-- a text of at most room bytes was put into a slice at `at`, and r is where it ends
pub record Put (room : ℕ) (before : List ℕ) (at : ℕ) (text after : List ℕ) (r : ℕ) : Type 0 where
  pub written : after ≡ sets before at text
  pub ends : r ≡ at + length text
  pub short : length text ≤ room
