-- Laws of the list of set places: cutting it, counting it, moving it, and what does not change it. Each holds for every number and width.
-- Assumes nothing.
use mathlib.Core.Path.{◌≡◌, refl, sym, ap, ◌∙◌}
use mathlib.Core.Logic.{⊎_elim}
use mathlib.Core.List.{List, [], ◌++◌, append-nil}
use Prim.Native.Nat.{ℕ, zero, suc, ◌+◌, ◌-◌, ◌*◌, ◌/◌, ◌%◌, ◌^◌, ◌≤◌, ◌<◌}
use native.Mathlib.Nat.{add-zero, add-suc, zero-add, suc-add, div-one, mod-one, mod-lt, div-eq_of_lt, eq-zero-or-pos, mod-eq_of_lt, le_refl}
use native.Mathlib.Numerals.{add-one, one-add}
use native.Mathlib.Omega.{arith}
use lib.ListN.{length}
use lib.Count.{ones, ones-le, ones_cat}
use lib.Pow.{pow_pos, shr-shr, mod-pow-add}
use Rattle.model.specs.Lists.{Rising, none, more, shift}
use Rattle.model.proofs.Rising.{rising_wider}
use Rattle.word.specs.Bits.{named, bits_from}

-- ---- one digit and the others

digit_lt : (w : ℕ) → w % 2 < 2
digit_lt w = omega arith

-- the lowest digit of the k + 1 lowest, and the k above it
pub mod_suc : (k w : ℕ) → w % 2 ^ suc k ≡ (w / 2 % 2 ^ k) * 2 + w % 2
mod_suc k w = rw (← add-one k) (mod-pow-add w k 1)

pub half_shr : (j w : ℕ) → w / 2 / 2 ^ j ≡ w / 2 ^ suc j
half_shr j w = shr-shr w 1 j ∙ rw (one-add j)

-- ---- cutting

named-append : (d p : ℕ) (a b : List ℕ) → named d p (a ++ b) ≡ named d p a ++ b
unfolding named
named-append zero p a b = refl
named-append (suc d) p a b = refl

-- the j + k lowest digits: the j lowest, then the k above them
pub bits_cat : (j k p w : ℕ) → bits_from (j + k) p w ≡ bits_from j p w ++ bits_from k (p + j) (w / 2 ^ j)
unfolding bits_from
bits_cat zero k p w = rw (zero-add, add-zero, div-one)
bits_cat (suc j) k p w =
    rw (suc-add j k, bits_cat j k (suc p) (w / 2), half_shr, suc-add p j, ← add-suc p j) (named-append _ _ _ _)

pub bits_cut : (n j p w : ℕ) → j ≤ n → bits_from n p w ≡ bits_from j p w ++ bits_from (n - j) (p + j) (w / 2 ^ j)
bits_cut n j p w h =
    let e : n ≡ j + (n - j) = omega arith in
    ap (λ (m : ℕ). bits_from m p w) e ∙ bits_cat j (n - j) p w

-- ---- what does not change it

pub bits_zero : (k p : ℕ) → bits_from k p 0 ≡ []
unfolding bits_from named
bits_zero zero p = refl
bits_zero (suc k) p = bits_zero k (suc p)

-- digits above the k lowest do not matter
pub bits_mod : (j k p w : ℕ) → bits_from k p (w % 2 ^ (j + k)) ≡ bits_from k p w
unfolding bits_from
bits_mod j zero p w = refl
bits_mod j (suc k) p w =
    let e : w % 2 ^ (j + suc k) ≡ (w / 2 % 2 ^ (j + k)) * 2 + w % 2 = rw (add-suc j k) (mod_suc (j + k) w) in
    let d : w % 2 ^ (j + suc k) % 2 ≡ w % 2 = omega arith in
    let h : w % 2 ^ (j + suc k) / 2 ≡ w / 2 % 2 ^ (j + k) = omega arith in
    rw (d, h, bits_mod j k (suc p) (w / 2))

-- digits that are not there name nothing
pub bits_short : (n s p w : ℕ) → s ≤ n → w < 2 ^ s → bits_from n p w ≡ bits_from s p w
bits_short n s p w h l = bits_cut n s p w h ∙ rw (div-eq_of_lt l, bits_zero, append-nil)

-- a number that names something is not 0
pub bits_some : (k p w : ℕ) → 0 < length (bits_from k p w) → 0 < w
bits_some k p w h = ⊎_elim (λ e. absurd (omega (arith, ap length (ap (bits_from k p) e ∙ bits_zero k p)))) (λ q. q) (eq-zero-or-pos w)

-- ---- how many there are

named-length : (d p : ℕ) (l : List ℕ) → d < 2 → length (named d p l) ≡ d + length l
unfolding named
named-length zero p l h = sym (zero-add (length l))
named-length (suc zero) p l h = sym (one-add (length l))
named-length (suc (suc d)) p l h = absurd (omega arith)

ones_zero : ones 0 ≡ 0
unfolding ones
ones_zero = refl

ones-one : (d : ℕ) → d < 2 → ones d ≡ d
unfolding ones
ones-one zero h = refl
ones-one (suc zero) h = refl
ones-one (suc (suc d)) h = absurd (omega arith)

ones_suc : (k w : ℕ) → ones (w % 2 ^ suc k) ≡ w % 2 + ones (w / 2 % 2 ^ k)
ones_suc k w = rw mod_suc (omega (arith, ones_cat 1 (w / 2 % 2 ^ k) (w % 2) (digit_lt w), ones-one (w % 2) (digit_lt w)))

pub bits_length : (k p w : ℕ) → length (bits_from k p w) ≡ ones (w % 2 ^ k)
unfolding bits_from
bits_length zero p w = rw (mod-one w) (sym ones_zero)
bits_length (suc k) p w = omega (arith, named-length (w % 2) p (bits_from k (suc p) (w / 2)) (digit_lt w), bits_length k (suc p) (w / 2), ones_suc k w)

-- of a word, and of any number of k digits
pub bits_ones : (k p w : ℕ) → w < 2 ^ k → length (bits_from k p w) ≡ ones w
bits_ones k p w h = bits_length k p w ∙ rw (mod-eq_of_lt h)

-- the count does not turn on the place counted from
pub bits_count : (k p q w : ℕ) → length (bits_from k p w) ≡ length (bits_from k q w)
bits_count k p q w = bits_length k p w ∙ sym (bits_length k q w)

pub bits_most : (k p w : ℕ) → length (bits_from k p w) ≤ k
bits_most k p w = rw bits_length (ones-le k (w % 2 ^ k) (mod-lt w (pow_pos k)))

-- ---- counted from another place

named-shift : (d q p : ℕ) (l : List ℕ) → named d (q + p) (shift q l) ≡ shift q (named d p l)
unfolding named shift
named-shift zero q p l = refl
named-shift (suc d) q p l = refl

pub bits_shift : (k q p w : ℕ) → bits_from k (q + p) w ≡ shift q (bits_from k p w)
unfolding bits_from shift
bits_shift zero q p w = refl
bits_shift (suc k) q p w = rw (← add-suc q p, bits_shift k q (suc p) (w / 2)) (named-shift (w % 2) q p _)

-- counted from q: what a caller adds to the places of a word
pub bits_moved : (k q w : ℕ) → bits_from k q w ≡ shift q (bits_from k 0 w)
bits_moved k q w = rw add-zero at (bits_shift k q 0 w)

-- ---- rising

named_rising : {p b : ℕ} {l : List ℕ} (d : ℕ) → p < b → Rising (suc p) b l → Rising p b (named d p l)
unfolding named
named_rising zero h r = rising_wider (omega arith) (omega arith) r
named_rising (suc d) h r = more (le_refl _) h r

pub bits_rising : (k p w : ℕ) → Rising p (p + k) (bits_from k p w)
unfolding bits_from
bits_rising zero p w = none
bits_rising (suc k) p w = named_rising (w % 2) (omega arith) (rw (add-suc p k, ← suc-add p k) (bits_rising k (suc p) (w / 2)))
