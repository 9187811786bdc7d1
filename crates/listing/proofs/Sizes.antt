-- Laws of records: what an admitted length says of a number, and that a whole record is listed or refused.
-- Assumes nothing.
use mathlib.Core.Path.{◌≡◌, refl}
use mathlib.Core.Bool.{true, false}
use mathlib.Core.Logic.{◌⊎◌, ⊎_elim, inl, inr}
use mathlib.Core.List.{List}
use Prim.Native.Nat.{ℕ, ◌-◌, ◌≤◌}
use native.Mathlib.Omega.{arith}
use lib.Dec.{eqb, ltb, leb}
use lib.ListN.{length, get_or, take, drop, length-drop}
use lib.Seq.{length-take-le}
use borrow.Author.Tests.{leb-true, ltb-false}
use Rattle.model.specs.Tests.{pick}
use Rattle.model.proofs.Tests.{either, both_left, both_right}
use Rattle.rowset.specs.Calls.{validate_of}
use Rattle.listing.specs.declared.records.Next.{Next}
use Rattle.listing.specs.declared.records.Next.TheVariants as next
use Rattle.listing.specs.Records.{be, sized, next_after, next_of, answer_line, line_of, goes_on}

pub record Sized (n : ℕ) : Type 0 where
  pub least : 5 ≤ n
  pub most : n ≤ 65540

pub sized_bounds : (n : ℕ) → sized n ≡ true → Sized n
unfolding sized
sized_bounds n e = record { least = leb-true 5 n (both_left _ _ e); most = leb-true n 65540 (both_right (leb 5 n) _ e) }

-- ---- a whole record in front

pub record Fitting (have n : ℕ) : Type 0 where
  pub sizes : sized n ≡ true
  pub inside : n ≤ have

same_record : {have : ℕ} (m n : ℕ) → next.Record m ≡ next.Record n → Fitting have m → Fitting have n
same_record m n e f = let q : m ≡ n = cc in rw (← q) f

no_record : {A : Type 0} (x : Next) (n : ℕ) → (x ≡ next.More) ⊎ (x ≡ next.Broken) → x ≡ next.Record n → A
no_record x n (inl p) q = let z : ◌≡◌ {A = ℕ} 0 1 = cc in absurd (omega arith)
no_record x n (inr p) q = let z : ◌≡◌ {A = ℕ} 0 1 = cc in absurd (omega arith)

after_broken : (have m : ℕ) → sized m ≡ false → next_after have m ≡ next.Broken
unfolding next_after pick
after_broken have m s = rw s

after_sized : (have m n : ℕ) → sized m ≡ true → next_after have m ≡ next.Record n → Fitting have n
unfolding next_after pick
after_sized have m n s e =
    ⊎_elim (λ (l : ltb have m ≡ true). no_record next.More n (inl refl) (rw (s, l) at e))
    (λ (l : ltb have m ≡ false). same_record m n (rw (s, l) at e) (record { sizes = s; inside = ltb-false have m l }))
    (either (ltb have m))

after_fits : (have m n : ℕ) → next_after have m ≡ next.Record n → Fitting have n
after_fits have m n e = ⊎_elim (λ (s : sized m ≡ true). after_sized have m n s e) (λ (s : sized m ≡ false). no_record (next_after have m) n (inr (after_broken have m s)) e) (either (sized m))

pub record_fits : (xs : List ℕ) (n : ℕ) → next_of xs ≡ next.Record n → Fitting (length xs - 4) n
unfolding next_of pick
record_fits xs n e =
    ⊎_elim (λ (l : ltb (length xs) 4 ≡ true). no_record next.More n (inl refl) (rw l at e))
    (λ (l : ltb (length xs) 4 ≡ false). after_fits (length xs - 4) (be 4 xs 0) n (rw l at e))
    (either (ltb (length xs) 4))

-- its line is not the last
pub sized-goes_on : (xs : List ℕ) → sized (length xs) ≡ true → goes_on (line_of xs) ≡ true
unfolding line_of answer_line goes_on pick
sized-goes_on xs s =
    let a = validate_of (get_or xs 0 0) (be 4 xs 1) (drop 5 xs) in
    ⊎_elim (λ (e : eqb a.number 0 ≡ true). rw (s, e)) (λ (e : eqb a.number 0 ≡ false). rw (s, e)) (either (eqb a.number 0))

pub record_goes_on : (xs : List ℕ) (n : ℕ) → next_of xs ≡ next.Record n → goes_on (line_of (take n (drop 4 xs))) ≡ true
record_goes_on xs n e =
    let fit = record_fits xs n e in
    let size : length (take n (drop 4 xs)) ≡ n = length-take-le n (drop 4 xs) (rw length-drop fit.inside) in
    sized-goes_on (take n (drop 4 xs)) (rw size fit.sizes)
