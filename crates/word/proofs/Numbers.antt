-- The number of a rising list of places: its digits name the list, and a number is that of the places its digits name.
-- So a number of k digits and a rising list below k determine each other.
-- Assumes nothing.
use mathlib.Core.Path.{◌≡◌, refl, sym, ap, ◌∙◌, subst}
use mathlib.Core.Logic.{⊎_elim}
use mathlib.Core.List.{List, [], ◌∷◌}
use Prim.Native.Nat.{ℕ, zero, suc, ◌+◌, ◌-◌, ◌*◌, ◌/◌, ◌%◌, ◌^◌, ◌<◌, ◌≤◌}
use native.Mathlib.Nat.{pow-suc, mod-one, eq-or-lt_of_le, le_refl, one-mul, div-lt_iff_lt-mul, div-eq_of_lt}
use native.Mathlib.Omega.{arith}
use lib.Dec.{ltb, eqb}
use lib.Pow.{pow_pos}
use borrow.Author.Tests.{lt-ltb, le-ltb, eq-eqb, ne_eqb}
use Rattle.model.specs.Lists.{Rising, none, more}
use Rattle.model.proofs.Tests.{order, same_or_not}
use Rattle.model.proofs.Rising.{rising_wider}
use Rattle.word.specs.Bits.{named, bits_from, num_from}
use Rattle.word.proofs.Bits.{bits_zero, bits_rising, mod_suc}

-- counted from one place further on, the number is half
halved : {a b c : ℕ} {l : List ℕ} → a < c → Rising c b l → num_from a l ≡ num_from (suc a) l * 2
unfolding num_from
halved h none = refl
halved {a = a} h (more {x = x} p q r) =
    let e : x - a ≡ suc (x - suc a) = omega arith in
    let ih = halved {a = a} (omega arith) r in
    rw (e, pow-suc 2 (x - suc a)) (omega arith)

num_half : {a b : ℕ} {l : List ℕ} → Rising (suc a) b l → num_from a l ≡ num_from (suc a) l * 2
num_half r = halved (le_refl _) r

-- ---- from a number to its places and back

num_named : {p b : ℕ} {l : List ℕ} (d : ℕ) → d < 2 → Rising (suc p) b l → num_from p (named d p l) ≡ num_from (suc p) l * 2 + d
unfolding named num_from
num_named zero h r = num_half r ∙ omega arith
num_named {p} (suc zero) h r = let z : p - p ≡ 0 = omega arith in rw (z, num_half r) (omega arith)
num_named (suc (suc d)) h r = absurd (omega arith)

pub bits_num : (k p w : ℕ) → num_from p (bits_from k p w) ≡ w % 2 ^ k
unfolding bits_from num_from
bits_num zero p w = sym (mod-one w)
bits_num (suc k) p w = num_named (w % 2) (omega arith) (bits_rising k (suc p) (w / 2)) ∙ rw (bits_num k (suc p) (w / 2)) (sym (mod_suc k w))

-- ---- from a list to its number and back

-- a list from a on, below a + k + 1: a itself in front, or not
num_cases : (P : List ℕ → Type 0) (k a : ℕ) → P [] → ((l : List ℕ) → Rising (suc a) (suc a + k) l → P (a ∷ l)) → ((l : List ℕ) → Rising (suc a) (suc a + k) l → P l)
    → (l : List ℕ) → Rising a (a + suc k) l → P l
num_cases P k a empty here later [] r = empty
num_cases P k a empty here later (x ∷ l) (more p q r) =
    let s : Rising (suc x) (suc a + k) l = rising_wider (omega arith) (omega arith) r in
    ⊎_elim
    (λ (e : a ≡ x). subst (λ (y : ℕ). P (y ∷ l)) e (here l (rw (← e) at s)))
    (λ (h : a < x). later (x ∷ l) (more h (omega arith) s))
    (eq-or-lt_of_le p)

pub num_bits : (k a : ℕ) (l : List ℕ) → Rising a (a + k) l → bits_from k a (num_from a l) ≡ l
unfolding bits_from named num_from
num_bits zero a [] r = refl
num_bits zero a (x ∷ l) (more p q r) = absurd (omega arith)
num_bits (suc k) a l r =
    num_cases (λ (l : List ℕ). bits_from (suc k) a (num_from a l) ≡ l) k a
    (bits_zero (suc k) a)
    (λ l s.
    let m = num_from (suc a) l in
    let z : a - a ≡ 0 = omega arith in
    let o : (1 + m * 2) % 2 ≡ 1 = omega arith in
    let h : (1 + m * 2) / 2 ≡ m = omega arith in
    rw (z, num_half s, o, h) (ap (λ (t : List ℕ). a ∷ t) (num_bits k (suc a) l s)))
    (λ l s.
    let m = num_from (suc a) l in
    let o : (m * 2) % 2 ≡ 0 = omega arith in
    let h : (m * 2) / 2 ≡ m = omega arith in
    rw (num_half s, o, h) (num_bits k (suc a) l s))
    l r

pub num_lt : (k a : ℕ) (l : List ℕ) → Rising a (a + k) l → num_from a l < 2 ^ k
unfolding num_from
num_lt zero a [] r = omega arith
num_lt zero a (x ∷ l) (more p q r) = absurd (omega arith)
num_lt (suc k) a l r =
    num_cases (λ (l : List ℕ). num_from a l < 2 ^ suc k) k a
    (pow_pos (suc k))
    (λ l s. let z : a - a ≡ 0 = omega arith in rw (z, pow-suc 2 k) (omega (arith, num_half s, num_lt k (suc a) l s)))
    (λ l s. rw (pow-suc 2 k) (omega (arith, num_half s, num_lt k (suc a) l s)))
    l r

-- ---- digits above the k lowest

below_pow : (n k : ℕ) → n / 2 ^ k ≡ 0 → n < 2 ^ k
below_pow n k e =
    let h : n / 2 ^ k < 1 = omega arith in
    rw (one-mul (2 ^ k)) at ((div-lt_iff_lt-mul (pow_pos k)).0 h)

-- the same test of n and of what is above its k lowest digits
pub pow_test : (n k : ℕ) → eqb (n / 2 ^ k) 0 ≡ ltb n (2 ^ k)
pow_test n k =
    ⊎_elim
    (λ (e : n / 2 ^ k ≡ 0). eq-eqb _ _ e ∙ sym (lt-ltb _ _ (below_pow n k e)))
    (λ (z : n / 2 ^ k ≡ 0 → ⊥). ne_eqb _ _ z ∙ sym (le-ltb _ _ (⊎_elim (λ (l : n < 2 ^ k). absurd (z (div-eq_of_lt l))) (λ (g : 2 ^ k ≤ n). g) (order n (2 ^ k)))))
    (same_or_not (n / 2 ^ k) 0)
