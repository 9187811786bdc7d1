-- What the last run that a search found answers, on any bytes.
-- Assumes nothing.
use Rattle.std.proofs.Common.{◌≡◌, ℕ, suc, ◌-◌, sym, ap, arith}
use Rattle.runs.specs.Asked.{last_of}

pub last_none : {A : Type 0} (none : A) (of : ℕ → A) {found k : ℕ} → found ≡ k → found ≡ 0 → none ≡ last_of none of k
unfolding last_of
last_none none of e z = rw (← e, z)

pub last_some : {A : Type 0} (none : A) (of : ℕ → A) {found k : ℕ} → found ≡ k → (found ≡ 0 → ⊥) → of (found - 1) ≡ last_of none of k
unfolding last_of
last_some none of {found} e n =
    let q : found ≡ suc (found - 1) = omega (arith, n) in
    rw (← e) (ap (λ (m : ℕ). last_of none of m) (sym q))
