-- Little-endian numbers cut at binary places: the low bytes are the low digits, the high bytes what is above them.
-- Assumes nothing.
use mathlib.Core.Path.{◌≡◌, refl, ap, ◌∙◌}
use mathlib.Core.List.{List}
use Prim.Native.Nat.{ℕ, zero, suc, ◌+◌, ◌-◌, ◌*◌, ◌/◌, ◌%◌, ◌^◌, ◌≤◌, ◌<◌}
use native.Mathlib.Nat.{mul_comm, add_comm, pow-suc}
use native.Mathlib.Omega.{arith}
use lib.Pow.{pow-add, high, low}
use Rattle.fields.specs.Le.{Bytes, le}
use Rattle.fields.proofs.Laws.{le_split, le_bound}

pub pow_bytes : (n : ℕ) → 256 ^ n ≡ 2 ^ (8 * n)
pow_bytes zero = refl
pow_bytes (suc n) =
    let e : 8 * suc n ≡ 8 * n + 8 = omega arith in
    rw (pow-suc 256 n, e, pow-add 2 (8 * n) 8, pow_bytes n)

le_cat : (xs : List ℕ) (m n at : ℕ) → le (m + n) xs at ≡ le n xs (at + m) * 2 ^ (8 * m) + le m xs at
le_cat xs m n at = le_split m n xs at ∙ rw (pow_bytes m, mul_comm (2 ^ (8 * m)) (le n xs (at + m))) (add_comm (le m xs at) _)

module _ (xs : List ℕ) (bytes : Bytes xs) where
  pub le_lt : (n at : ℕ) → le n xs at < 2 ^ (8 * n)
  le_lt n at = rw (← pow_bytes n) (le_bound n xs at bytes)

  pub le_high : (n i at : ℕ) → i ≤ n → le n xs at / 2 ^ (8 * i) ≡ le (n - i) xs (at + i)
  le_high n i at h =
      let e : n ≡ i + (n - i) = omega arith in
      ap (λ (x : ℕ). le x xs at / 2 ^ (8 * i)) e ∙ rw (le_cat xs i (n - i) at) (high (le (n - i) xs (at + i)) (8 * i) (le_lt i at))

  pub le_low : (n m at : ℕ) → m ≤ n → le n xs at % 2 ^ (8 * m) ≡ le m xs at
  le_low n m at h =
      let e : n ≡ m + (n - m) = omega arith in
      ap (λ (x : ℕ). le x xs at % 2 ^ (8 * m)) e ∙ rw (le_cat xs m (n - m) at) (low (le (n - m) xs (at + m)) (8 * m) (le_lt m at))
