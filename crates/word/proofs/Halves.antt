-- What the code of a word computes: the places below one by shifting the others out, select by halves, the lowest set place.
-- Assumes nothing.
use mathlib.Core.Path.{◌≡◌, refl, sym, ap, ◌∙◌}
use mathlib.Core.List.{List, [], ◌∷◌, ◌++◌}
use Prim.Native.Nat.{ℕ, zero, suc, ◌+◌, ◌-◌, ◌*◌, ◌/◌, ◌%◌, ◌^◌, ◌≤◌, ◌<◌}
use native.Mathlib.Nat.{add-zero, add_comm, mul_assoc, mul-mod_left, mod-one, mod-le, pow-suc}
use native.Mathlib.Omega.{arith}
use lib.ListN.{length, get_or, length-append, get_or-append}
use lib.Count.{ones, ones_cat, count_trailing_zeros, under}
use lib.Bits.{bit_and, and_step, and_self}
use lib.Pow.{pow_pos, pow-add, shl-shr, mod-pow-add, mod-mod-pow}
use Rattle.model.proofs.Rising.{rising_below}
use Rattle.model.proofs.Append.{get_or_second}
use Rattle.word.specs.Bits.{named, bits_from, place_in, Wanted, Halved}
use Rattle.word.proofs.Bits.{bits_cat, bits_length, bits_count, bits_rising, mod_suc}

-- ---- the b lowest digits, moved to the top of a word

shl_low : (b k w : ℕ) → (w * 2 ^ k) % 2 ^ (b + k) ≡ (w % 2 ^ b) * 2 ^ k
shl_low b k w = mod-pow-add (w * 2 ^ k) b k ∙ rw (shl-shr w k, mul-mod_left w (2 ^ k), add-zero)

ones_shl : (k a : ℕ) → ones (a * 2 ^ k) ≡ ones a
unfolding ones
ones_shl k a = simp add-zero at (ones_cat k a 0 (pow_pos k))

pub ones_shifted : (b w : ℕ) → b < 64 → ones (((w * 2 ^ (63 - b)) % 2 ^ 64 * 2 ^ 1) % 2 ^ 64) ≡ length (bits_from b 0 w)
ones_shifted b w h =
    let e : (b + 1) + (63 - b) ≡ 64 = omega arith in
    let s : (w * 2 ^ (63 - b)) % 2 ^ 64 ≡ (w % 2 ^ (b + 1)) * 2 ^ (63 - b) = rw e at (shl_low (b + 1) (63 - b) w) in
    let f : b + ((63 - b) + 1) ≡ 64 = omega arith in
    let g : (w % 2 ^ (b + 1)) * 2 ^ (63 - b) * 2 ^ 1 ≡ (w % 2 ^ (b + 1)) * 2 ^ ((63 - b) + 1) = mul_assoc (w % 2 ^ (b + 1)) (2 ^ (63 - b)) (2 ^ 1) ∙ rw (pow-add 2 (63 - b) 1) in
    let t : ((w % 2 ^ (b + 1)) * 2 ^ ((63 - b) + 1)) % 2 ^ 64 ≡ (w % 2 ^ (b + 1) % 2 ^ b) * 2 ^ ((63 - b) + 1) = rw f at (shl_low b ((63 - b) + 1) (w % 2 ^ (b + 1))) in
    let m : w % 2 ^ (b + 1) % 2 ^ b ≡ w % 2 ^ b = rw (add_comm b 1) (mod-mod-pow w 1 b) in
    rw (s, g, t, ones_shl, m) (sym (bits_length b 0 w))

-- ---- the half that holds the wanted place

module _ (word width k base : ℕ) (big : 1 < width) (wanted : Wanted word width k base) where
  abbrev half : ℕ
  half = width / 2

  -- the level below, at which both halves are
  lower : (l : ℕ) → width ≡ 2 ^ l → (m : ℕ) × (half ≡ 2 ^ m) × (width ≡ half + half)
  lower zero e = absurd (omega arith)
  lower (suc l) e = let q : width ≡ 2 ^ l * 2 = rw pow-suc at e in (l, omega arith, omega arith)

  level_below : (m : ℕ) × (half ≡ 2 ^ m) × (width ≡ half + half)
  level_below = lower wanted.level wanted.power

  abbrev low : List ℕ
  low = bits_from half base word

  abbrev high : List ℕ
  high = bits_from half (base + half) (word / 2 ^ half)

  parts : bits_from width base word ≡ low ++ high
  parts = ap (λ (n : ℕ). bits_from n base word) level_below.2 ∙ bits_cat half half base word

  pub low_half : k < length (bits_from half 0 word) → Halved word width k base (record { word = word; k = k; base = base })
  low_half less =
      let l : k < length low = omega (arith, bits_count half 0 base word) in
      record {
        wanted = record { level = level_below.0; power = level_below.1; inside = l; fits = omega (arith, wanted.fits) };
        same = rw parts (sym (get_or-append low high 0 k l));
      }

  pub high_half : (n : ℕ) → n ≡ length (bits_from half 0 word) → n ≤ k → Halved word width k base (record { word = word / 2 ^ half; k = k - n; base = base + half })
  high_half n e least =
      let q : n ≡ length low = e ∙ bits_count half 0 base word in
      let l : length low ≤ k = omega arith in
      record {
        wanted = record {
          level = level_below.0;
          power = level_below.1;
          inside = omega (arith, wanted.inside, simp length-append at (ap length parts));
          fits = omega (arith, wanted.fits, level_below.2);
        };
        same = rw (parts, q) (sym (get_or_second low high k l));
      }

named_only : (d p k : ℕ) → k < length (named d p []) → p ≡ get_or (named d p []) k 0
unfolding named
named_only zero p k h = absurd (omega arith)
named_only (suc d) p zero h = refl
named_only (suc d) p (suc k) h = absurd (omega arith)

-- one digit is left
pub last_digit : (word width k base : ℕ) → width ≤ 1 → Wanted word width k base → base ≡ place_in word width k base
unfolding bits_from
last_digit word width k base small wanted =
    let e : width ≡ 1 = omega (arith, wanted.power, pow_pos wanted.level) in
    rw e (named_only (word % 2) base k (rw e at wanted.inside))

-- ---- the lowest set digit, and the number without it

doubled : (k p m : ℕ) → bits_from (suc k) p (m * 2) ≡ bits_from k (suc p) m
unfolding bits_from named
doubled k p m =
    let e : (m * 2) % 2 ≡ 0 = omega arith in
    let h : (m * 2) / 2 ≡ m = omega arith in
    rw (e, h)

clear_odd : (w : ℕ) → w % 2 ≡ 1 → bit_and w (w - 1) ≡ w / 2 * 2
clear_odd w o =
    let a : (w - 1) / 2 ≡ w / 2 = omega arith in
    let b : (w - 1) % 2 ≡ 0 = omega arith in
    and_step w (w - 1) ∙ rw (a, b, o, and_self) (omega arith)

clear_even : (w : ℕ) → w % 2 ≡ 0 → 0 < w → bit_and w (w - 1) ≡ bit_and (w / 2) (w / 2 - 1) * 2
clear_even w o pos =
    let a : (w - 1) / 2 ≡ w / 2 - 1 = omega arith in
    let b : (w - 1) % 2 ≡ 1 = omega arith in
    and_step w (w - 1) ∙ rw (a, b, o) (omega arith)

-- by the lowest digit d
next_by : (k p w d : ℕ) → w % 2 ≡ d → 0 < w % 2 ^ suc k
    → (0 < w / 2 % 2 ^ k → bits_from k (suc p) (w / 2) ≡ (suc p + count_trailing_zeros k (w / 2)) ∷ bits_from k (suc p) (bit_and (w / 2) (w / 2 - 1)))
    → named d p (bits_from k (suc p) (w / 2)) ≡ (p + under d (count_trailing_zeros k (w / 2))) ∷ bits_from (suc k) p (bit_and w (w - 1))
unfolding named
next_by k p w zero e pos ih =
    let q : 0 < w / 2 % 2 ^ k = omega (arith, mod_suc k w) in
    let wp : 0 < w = omega (arith, mod-le w (2 ^ suc k)) in
    let s : suc p + count_trailing_zeros k (w / 2) ≡ p + suc (count_trailing_zeros k (w / 2)) = omega arith in
    rw (clear_even w e wp, doubled, ← s) (ih q)
next_by k p w (suc zero) e pos ih = rw (clear_odd w e, doubled, add-zero)
next_by k p w (suc (suc d)) e pos ih = absurd (omega arith)

-- the first place is that of the lowest set digit, and the others are those of the number without it
pub bits_next : (k p w : ℕ) → 0 < w % 2 ^ k → bits_from k p w ≡ (p + count_trailing_zeros k w) ∷ bits_from k p (bit_and w (w - 1))
unfolding bits_from count_trailing_zeros
bits_next zero p w pos = absurd (omega (arith, mod-one w))
bits_next (suc k) p w pos = next_by k p w (w % 2) refl pos (bits_next k (suc p) (w / 2))

-- its place is one of the k
pub trailing_lt : (k w : ℕ) → 0 < w % 2 ^ k → count_trailing_zeros k w < k
trailing_lt k w pos =
    let e = bits_next k 0 w pos in
    let h : 0 < length (bits_from k 0 w) = omega (arith, ap length e) in
    omega (arith, rising_below (bits_rising k 0 w) 0 h, ap (λ (l : List ℕ). get_or l 0 0) e)
