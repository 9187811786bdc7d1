-- Costs on document 01's examples, by computation: the cheapest whole form of each, and the zero saving.
-- Assumes nothing.
use mathlib.Core.Path.{◌≡◌, refl}
use mathlib.Core.Bool.{Bool, true, false}
use mathlib.Core.List.{List, [], ◌∷◌, ◌++◌}
use Prim.Native.Nat.{ℕ, ◌+◌, ◌*◌}
use Rattle.model.specs.Tests.{pick, tabulate}
use Rattle.model.specs.Lists.{range, onto, runs_of, positions_of}
use Rattle.stats.specs.declared.Stats.{Stats}
use Rattle.cost.specs.declared.Form.{Form}
use Rattle.bitmap.specs.Body.{bitmap_length}
use Rattle.stats.specs.Statistics.{stats_of, joined}
use Rattle.cost.specs.Sizes.{binary, depth_of}
use Rattle.cost.specs.Forms.{items_form, bitmap_form, dense_form, order_of, lex, key_of, lesser, least, local_offers, local_form, runs_form, plain_offers, trimmed_offers, whole_form}

form : ℕ → Bool → ℕ → ℕ → ℕ → Form
form tag trimmed bytes depth words = record { tag = tag; trimmed = trimmed; bytes = bytes; depth = depth; words = words }

-- the cheapest whole form of rows over [start, start + span)
whole : ℕ → ℕ → List ℕ → Form
whole start span rows = whole_form (stats_of (positions_of start rows)) span

-- [100,105), all rows; 3 4 5; 3 4 5 6, a tie at 8 bytes where depth decides; all but 4
short : (whole 100 5 (range 100 5) ≡ form 1 false 0 0 0) × (whole 0 10 (range 3 3) ≡ form 3 false 6 2 0) × (whole 0 10 (range 3 4) ≡ form 8 true 8 0 0) × (whole 0 10 (range 0 4 ++ range 5 5) ≡ form 7 false 6 1 0)
unfolding whole form range tabulate stats_of positions_of runs_of onto pick whole_form plain_offers trimmed_offers least lesser lex key_of order_of runs_form items_form bitmap_form dense_form depth_of binary
short = (refl, refl, refl, refl)

-- row 65535 and row 65536 in [0,65537); two runs; evens; ten rows far apart
long : (whole 0 65537 (65535 ∷ []) ≡ form 3 false 2 1 0) × (whole 0 65537 (65536 ∷ []) ≡ form 2 false 4 1 0) × (whole 0 200 (range 10 10 ++ range 100 10) ≡ form 4 false 16 2 0) × (whole 0 64 (tabulate (λ (i : ℕ). 2 * i) 32) ≡ form 6 false 14 1 4) × (whole 0 200000 (tabulate (λ (i : ℕ). 100000 + 100 * i) 10) ≡ form 2 false 40 4 0)
unfolding whole form range tabulate stats_of positions_of runs_of onto pick whole_form plain_offers trimmed_offers least lesser lex key_of order_of runs_form items_form bitmap_form dense_form depth_of binary
long = (refl, refl, refl, refl, refl)

-- 0 to 9 without 5, and 4096 to 4105: 16 + 2 + 0 − 18 saves nothing
left : Stats
left = stats_of (range 0 5 ++ range 6 4)

right : Stats
right = stats_of (range 4096 10)

zero_saving : (local_form left ≡ form 7 false 2 1 0) × (local_form right ≡ form 1 false 0 0 0) × (local_form (joined left right) ≡ form 4 false 18 2 0)
unfolding left right form range stats_of joined runs_of onto pick local_form local_offers least lesser lex key_of order_of items_form bitmap_form dense_form depth_of binary
zero_saving = (refl, refl, refl)

longest : bitmap_length 65535 ≡ 8704
longest = refl
