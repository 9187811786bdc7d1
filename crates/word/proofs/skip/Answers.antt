-- `word::skip` meets its contract: the place that is passed over is the first of those that are left.
-- Assumes nothing.
use Rattle.std.proofs.Common.{◌≡◌, ℕ, ◌+◌, ◌<◌, List, ◌∷◌, length, drop, arith, add-one, length-drop, drop-cons}
use Rattle.word.specs.Bits.{bits_of}
use Rattle.word.proofs.Bits.{bits_some}
use Rattle.word.proofs.skip.Goals as goal

one_less : (xs : List ℕ) (i : ℕ) {x : ℕ} {ys zs : List ℕ} → i < length xs → zs ≡ drop i xs → zs ≡ x ∷ ys → ys ≡ drop (i + 1) xs
one_less xs i h p q = let e = drop-cons xs i 0 h in rw (add-one i) (cc)

pub lowest-rest-requires : goal.lowest-rest-requires
lowest-rest-requires c = bits_some 64 0 c.loop.rest (rw (c.loop.invariant, length-drop) (omega arith))

pub loop-preserved : goal.loop-preserved
loop-preserved c = one_less (bits_of c.args.word) _ (omega arith) c.loop.invariant c.lowest-rest.ensures.0
