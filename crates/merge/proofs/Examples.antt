-- Document 01's examples of merging, computed from the statistics of their windows.
-- Assumes nothing.
use mathlib.Core.Path.{◌≡◌, refl}
use mathlib.Core.List.{[], ◌∷◌}
use Prim.Native.Nat.{ℕ, zero, suc, ◌*◌}
use Rattle.model.specs.Tests.{both, pick}
use Rattle.stats.specs.declared.Stats.{Stats}
use Rattle.stats.specs.Statistics.{joined}
use Rattle.cost.specs.Sizes.{binary, depth_of}
use Rattle.cost.specs.Forms.{items_form, bitmap_form, dense_form, order_of, lex, key_of, lesser, least, local_offers, local_form, payload}
use Rattle.links.specs.Pairs.{admits, saves, total_from, segment_of, admitted, saving}
use Rattle.merge.specs.Rule.{without, cuts_from, one_if, contains, pairs, pairs_with, better, best, after_joins, later_offers, merged, offers}
use Rattle.merge.specs.Steps.{cuts_of, offers_of}

-- rows 0, 4096 and 8192
thrice : ℕ → Stats
thrice i = record { first = 4096 * i; last = 4096 * i; count = 1; runs = 1 }

thrice_offers : offers_of thrice 3 ≡ 3
unfolding offers_of offers pairs pairs_with later_offers cuts_from best better without contains both pick one_if admitted saving admits saves payload segment_of total_from joined local_form least local_offers lesser lex key_of order_of items_form bitmap_form dense_form depth_of binary thrice
thrice_offers = refl

thrice_cuts : cuts_of thrice 3 ≡ 0 ∷ 3 ∷ []
unfolding cuts_of merged after_joins cuts_from best better without contains both pick one_if admitted saving admits saves payload segment_of total_from joined local_form least local_offers lesser lex key_of order_of items_form bitmap_form dense_form depth_of binary thrice
thrice_cuts = refl

-- 0 to 9 without 5, and 4096 to 4105: joining them saves nothing, and they are joined
even : ℕ → Stats
even zero = record { first = 0; last = 9; count = 9; runs = 2 }
even (suc i) = record { first = 4096; last = 4105; count = 10; runs = 1 }

even_saves : saving even 0 1 2 ≡ 0
unfolding pick saving saves payload segment_of total_from joined local_form least local_offers lesser lex key_of order_of items_form bitmap_form dense_form depth_of binary even
even_saves = refl

even_cuts : cuts_of even 2 ≡ 0 ∷ 2 ∷ []
unfolding cuts_of merged after_joins cuts_from best better without both pick admitted saving admits saves payload segment_of total_from joined local_form least local_offers lesser lex key_of order_of items_form bitmap_form dense_form depth_of binary even
even_cuts = refl

even_offers : offers_of even 2 ≡ 1
unfolding offers_of offers pairs pairs_with later_offers cuts_from best better without contains both pick one_if admitted saving admits saves payload segment_of total_from joined local_form least local_offers lesser lex key_of order_of items_form bitmap_form dense_form depth_of binary even
even_offers = refl

-- rows 0 and z: 65534 is joined, 65535 is too far
far : ℕ → ℕ → Stats
far z zero = record { first = 0; last = 0; count = 1; runs = 1 }
far z (suc i) = record { first = z; last = z; count = 1; runs = 1 }

near-offers : offers_of (far 65534) 2 ≡ 1
unfolding offers_of offers pairs pairs_with later_offers cuts_from best better without contains both pick one_if admitted saving admits saves payload segment_of total_from joined local_form least local_offers lesser lex key_of order_of items_form bitmap_form dense_form depth_of binary far
near-offers = refl

far_offers : offers_of (far 65535) 2 ≡ 0
unfolding offers_of offers pairs pairs_with later_offers cuts_from best better without contains both pick one_if admitted saving admits saves payload segment_of total_from joined local_form least local_offers lesser lex key_of order_of items_form bitmap_form dense_form depth_of binary far
far_offers = refl
