-- The definitions on document 01's example, and on the lengths at the bounds.
-- Assumes nothing.
use mathlib.Core.Path.{◌≡◌, refl}
use mathlib.Core.List.{[], ◌∷◌}
use Rattle.model.specs.Tests.{both, pick}
use Rattle.model.specs.Answers.{accepted, refused}
use Rattle.listing.specs.declared.records.Line.TheVariants.{Broken, End}
use Rattle.listing.specs.declared.records.Next.TheVariants as next
use Rattle.listing.specs.Records.{be, sized, next_after, next_of, figures_of, answer_line, line_of}
use Rattle.listing.specs.Text.{ascii, digits, decimal, spaced, figures_text, text_of}

-- the example's lines, from what the validator says of its records
lines : (text_of (answer_line 1 5 0 (accepted (5 ∷ []))) 0 ≡ ascii "0 1 5 5 0 0\n")
    × (text_of (answer_line 3 10 2 (accepted (1 ∷ []))) 1 ≡ ascii "1 3 10 1 9 2\n")
    × (text_of (answer_line 0 5 0 (refused 8)) 2 ≡ ascii "2 refused\n")
    × (text_of End 3 ≡ ascii "end 3\n")
unfolding text_of answer_line figures_of figures_text spaced decimal digits ascii pick
lines = (refl, refl, refl, refl)

-- a length is big-endian, and 5 to 65,540; the record is whole once its bytes are at hand
lengths : (next_after 65540 (be 4 (0 ∷ 0 ∷ 0 ∷ 4 ∷ []) 0) ≡ next.Broken)
    × (next_after 5 (be 4 (0 ∷ 0 ∷ 0 ∷ 5 ∷ []) 0) ≡ next.Record 5)
    × (next_after 4 (be 4 (0 ∷ 0 ∷ 0 ∷ 5 ∷ []) 0) ≡ next.More)
    × (next_after 65540 (be 4 (0 ∷ 1 ∷ 0 ∷ 4 ∷ []) 0) ≡ next.Record 65540)
    × (next_after 65541 (be 4 (0 ∷ 1 ∷ 0 ∷ 5 ∷ []) 0) ≡ next.Broken)
unfolding next_after sized be both pick
lengths = (refl, refl, refl, refl, refl)

-- three bytes are too few to tell, and a record shorter than its tag and span gets no figures
short : (next_of (0 ∷ 0 ∷ 0 ∷ []) ≡ next.More) × (line_of (1 ∷ 0 ∷ 0 ∷ 0 ∷ []) ≡ Broken)
unfolding next_of line_of sized both pick
short = (refl, refl)

-- the largest number that is printed
largest : decimal 18446744073709551615 ≡ ascii "18446744073709551615"
unfolding decimal digits ascii pick
largest = refl
