-- Entries of a table: where they lie, that those of a table inside a slice are inside, and those behind the first.
-- Assumes nothing.
use mathlib.Core.Path.{◌≡◌}
use mathlib.Core.List.{List, ◌++◌}
use Prim.Native.Nat.{ℕ, suc, ◌+◌, ◌*◌, ◌<◌, ◌≤◌}
use native.Mathlib.Nat.{zero-add, suc-mul, le_trans, mul-le-mul_right}
use native.Mathlib.Numerals.{add-one}
use native.Mathlib.Omega.{arith}
use lib.ListN.{length}
use Rattle.fields.specs.Le.{le}
use Rattle.fields.proofs.Tables.{le_second}
use Rattle.search.specs.Search.{entry}

-- in a table that starts the slice
pub entry_at : (w : ℕ) (xs : List ℕ) (stride i : ℕ) → le w xs (i * stride) ≡ entry w xs 0 stride i
unfolding entry
entry_at w xs stride i = rw zero-add

-- behind the first entry
pub entry_behind : (w base stride : ℕ) (head xs : List ℕ) (i : ℕ) → length head ≡ stride → entry w (head ++ xs) base stride (suc i) ≡ entry w xs base stride i
unfolding entry
entry_behind w base stride head xs i e =
    let q : base + suc i * stride ≡ stride + (base + i * stride) = rw suc-mul (omega arith) in
    rw q (le_second w head xs stride (base + i * stride) e)

-- entry i of n that are inside is inside, as the reader of an entry asks it
pub slot : (stride i : ℕ) {n len : ℕ} → n * stride ≤ len → i < n → (i + 1) * stride ≤ len
slot stride i h l = le_trans (mul-le-mul_right stride (rw (add-one i) l)) h

-- and a field of w bytes in each, as the search asks it of all
pub slots : (stride base w : ℕ) {n len : ℕ} → n * stride ≤ len → base + w ≤ stride → (i : ℕ) → i < n → base + i * stride + w ≤ len
slots stride base w h b i l = omega (arith, slot stride i h l)
