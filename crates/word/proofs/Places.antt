-- Where a place stands in the list of set places: is it one, and how many are below it.
-- Assumes nothing.
use mathlib.Core.Path.{◌≡◌, refl, ◌∙◌}
use mathlib.Core.List.{List}
use Prim.Native.Nat.{ℕ, zero, suc, ◌+◌, ◌-◌, ◌/◌, ◌%◌, ◌^◌, ◌≤◌, ◌<◌}
use native.Mathlib.Nat.{zero-add}
use native.Mathlib.Omega.{arith}
use lib.Dec.{eqb}
use lib.ListN.{length}
use lib.Pow.{field, mod-mod-pow}
use Rattle.model.specs.Lists.{Rising, below, has}
use Rattle.model.proofs.Standing.{below_none, below_whole, has_here, has_outside}
use Rattle.model.proofs.Append.{below-append, has_second}
use Rattle.word.specs.Bits.{named, bits_from}
use Rattle.word.proofs.Bits.{bits_cut, bits_rising}

-- counted from 0
pub rising_places : (n w : ℕ) → Rising 0 n (bits_from n 0 w)
rising_places n w = rw zero-add at (bits_rising n 0 w)

pub below_bits : (n p w : ℕ) → p ≤ n → below (bits_from n 0 w) p ≡ length (bits_from p 0 w)
below_bits n p w h =
    rw (bits_cut n p 0 w, zero-add, below-append)
    (omega (arith, below_whole (rising_places p w) p (omega arith), below_none (bits_rising (n - p) p (w / 2 ^ p)) p (omega arith)))

has_named : {p b : ℕ} {l : List ℕ} (d : ℕ) → d < 2 → Rising (suc p) b l → has (named d p l) p ≡ eqb d 1
unfolding named
has_named {p} zero h r = has_outside r p (λ w. omega (arith, w.0))
has_named {p} {b} {l} (suc zero) h r = has_here p l p refl
has_named (suc (suc d)) h r = absurd (omega arith)

-- a place is in the list exactly where its digit is set
pub has_bits : (n p w : ℕ) → p < n → has (bits_from n 0 w) p ≡ eqb (w / 2 ^ p % 2) 1
unfolding bits_from
has_bits n p w h =
    let le : p ≤ n = omega arith in
    let e : n - p ≡ suc (n - p - 1) = omega arith in
    let x = w / 2 ^ p in
    rw (bits_cut n p 0 w, zero-add) (has_second _ (rising_places p w) p (omega arith)
    ∙ rw e (has_named (x % 2) (omega arith) (bits_rising (n - p - 1) (suc p) (x / 2))))

-- a digit of the low part of a number is a digit of the number
pub digit_mod : (j k w : ℕ) → w % 2 ^ (j + suc k) / 2 ^ k % 2 ≡ w / 2 ^ k % 2
digit_mod j k w =
    let e : j + suc k ≡ (j + 1) + k = omega arith in
    rw (e, field w (j + 1) k) (mod-mod-pow (w / 2 ^ k) j 1)
