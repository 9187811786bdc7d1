-- The pieces that are written: a field, the items of a range, the entry of a run.
-- Assumes nothing.
use mathlib.Core.Path.{◌≡◌, refl, sym, ap, ◌∙◌}
use mathlib.Core.List.{List, [], ◌∷◌, ◌++◌, append-nil}
use Prim.Native.Nat.{ℕ, suc, ◌+◌, ◌-◌, ◌*◌, ◌%◌, ◌^◌, ◌<◌, ◌≤◌}
use native.Mathlib.Nat.{add-zero}
use native.Mathlib.Omega.{arith}
use lib.ListN.{length, get_or, drop, length-append, drop_of_length-le}
use lib.Seq.{drop-cons}
use native.Mathlib.Numerals.{add-one}
use Rattle.fields.specs.Le.{digits, put}
use Rattle.fields.proofs.Laws.{digits_split, length_digits}
use Rattle.model.specs.Lists.{range, run}
use Rattle.model.proofs.Ranges.{length-range}
use Rattle.lists.specs.Lists.{list_layout}
use Rattle.lists.proofs.Bytes.{length_layout}
use Rattle.runs.specs.Runs.{runs_bytes}
use Rattle.emit.proofs.Emitting.{Emitting, emitting_next, emitting_room, emitting_end, written_more, written-put}
use Rattle.emit.specs.Written.{Written}

-- ---- a field has the lowest digits of its number

digits_low : (n v : ℕ) → digits n (v % 256 ^ n) ≡ digits n v
unfolding digits
digits_low n v = sym (ap (λ (m : ℕ). digits m v) (sym (add-zero n)) ∙ digits_split n 0 v ∙ append-nil (digits n (v % 256 ^ n)))

pub put_low : (n : ℕ) (xs : List ℕ) (at v : ℕ) → put n xs at (v % 256 ^ n) ≡ put n xs at v
unfolding put
put_low n xs at v = rw digits_low

-- ---- the items of a range, one after the other

-- i of them stand
pub record Listing (w start size : ℕ) (before : List ℕ) (at p i : ℕ) (out : List ℕ) : Type 0 where
  pub upto : i ≤ size
  pub so : Emitting (list_layout w (range start size)) before at p (list_layout w (range (start + i) (size - i))) out

module _ (w start size : ℕ) (before : List ℕ) (at : ℕ) where
  module _ {p i : ℕ} {out : List ℕ} (s : Listing w start size before at p i out) (h : i < size) where
    step : list_layout w (range (start + i) (size - i)) ≡ digits w (start + i) ++ list_layout w (range (start + (i + 1)) (size - (i + 1)))
    unfolding range list_layout
    step =
        let e : size - i ≡ suc (size - (i + 1)) = omega arith in
        let f : start + (i + 1) ≡ suc (start + i) = omega arith in
        rw (e, f)

    pub listing_room : at + size * w ≤ length before → p + w ≤ length out
    listing_room r =
        let l : length (list_layout w (range start size)) ≡ size * w = length_layout w (range start size) ∙ rw length-range in
        omega (arith, length_digits w (start + i), emitting_room s.so (digits w (start + i)) _ step (rw l r))

    pub listing_next : {out' : List ℕ} {q : ℕ} → out' ≡ put w out p (start + i) → q ≡ p + w → Listing w start size before at q (i + 1) out'
    listing_next e q = record { upto = omega arith; so = emitting_next s.so (written-put w (start + i) p e q) step }

  pub listing_end : {p i : ℕ} {out : List ℕ} → Listing w start size before at p i out → size ≤ i → Written (list_layout w (range start size)) at before out p
  unfolding range list_layout
  listing_end {p} {i} s h = let e : size - i ≡ 0 = omega arith in emitting_end s.so (rw e)

-- ---- the entry of a run is three fields

pub entry_fields : (w start size before at : ℕ) {p r : ℕ} {xs ys zs out : List ℕ} → p ≡ at + w → ys ≡ put w xs at start → zs ≡ put 2 ys p size → out ≡ put 2 zs (p + 2) before → r ≡ p + 4
    → Written (runs_bytes w before (run start size ∷ [])) at xs out r
unfolding runs_bytes
entry_fields w start size before at {p} l d e f q = rw append-nil (written_more (written_more (written-put w start at d l) (written-put 2 size p e refl)) (written-put 2 before (p + 2) f (omega arith)))

pub length-entry : (w before start size : ℕ) → length (runs_bytes w before (run start size ∷ [])) ≡ w + 4
unfolding runs_bytes
length-entry w before start size = simp (append-nil, length-append, length_digits) (omega arith)

-- ---- the items of a list, one after the other

-- i of them stand
pub record Items (w : ℕ) (xs before : List ℕ) (at p i : ℕ) (out : List ℕ) : Type 0 where
  pub upto : i ≤ length xs
  pub so : Emitting (list_layout w xs) before at p (list_layout w (drop i xs)) out

module _ (w : ℕ) (xs before : List ℕ) (at : ℕ) where
  module _ {p i : ℕ} {out : List ℕ} (s : Items w xs before at p i out) (h : i < length xs) where
    item : list_layout w (drop i xs) ≡ digits w (get_or xs i 0) ++ list_layout w (drop (i + 1) xs)
    unfolding list_layout
    item = rw (add-one i, drop-cons xs i 0 h)

    pub items_room : at + length (list_layout w xs) ≤ length before → p + w ≤ length out
    items_room r = omega (arith, length_digits w (get_or xs i 0), emitting_room s.so (digits w (get_or xs i 0)) _ item r)

    pub items_next : {v q : ℕ} {out' : List ℕ} → v ≡ get_or xs i 0 → out' ≡ put w out p v → q ≡ p + w → Items w xs before at q (i + 1) out'
    items_next e f l = record { upto = omega arith; so = emitting_next s.so (written-put w (get_or xs i 0) p (rw e at f) l) item }

  pub items_end : {p i : ℕ} {out : List ℕ} → Items w xs before at p i out → length xs ≤ i → Written (list_layout w xs) at before out p
  unfolding list_layout
  items_end s h = emitting_end s.so (rw (drop_of_length-le xs h))
