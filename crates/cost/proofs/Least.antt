-- The least of forms is least: none of those that may be taken has a lesser key, so none is shorter. And a local payload is short.
-- Assumes nothing.
use mathlib.Core.Path.{◌≡◌, refl, sym, ◌∙◌}
use mathlib.Core.Bool.{true, false, false≢true}
use mathlib.Core.Logic.{⊎_elim}
use mathlib.Core.List.{List, [], ◌∷◌}
use Prim.Native.Nat.{ℕ, zero, suc, ◌+◌, ◌*◌, ◌<◌, ◌≤◌}
use native.Mathlib.Nat.{le_trans, eq-or-lt_of_le}
use native.Mathlib.Omega.{arith}
use lib.Dec.{lit<}
use lib.ListN.{length, get_or, replicate}
use borrow.Author.Tests.{lt-ltb, le-ltb, eq-eqb}
use Rattle.model.specs.Tests.{pick}
use Rattle.model.proofs.Tests.{either, order, never, pick_true, pick_false}
use Rattle.stats.specs.declared.Stats.{Stats}
use Rattle.stats.specs.Statistics.{span_of, holes_of}
use Rattle.cost.specs.declared.Form.{Form}
use Rattle.bitmap.specs.Body.{bitmap_length}
use Rattle.cost.specs.Forms.{items_form, bitmap_form, order_of, lex, key_of, lesser, Offer, always, dense_form, least, local_offers, local_form}
use Rattle.cost.proofs.Choices.{lex-same}

-- ---- keys of one length are in order

more_first : (x y : ℕ) (xs ys : List ℕ) → y < x → lex (x ∷ xs) (y ∷ ys) ≡ false
unfolding lex pick
more_first x y xs ys h = rw (le-ltb x y (omega arith), lt-ltb y x h)

less_first : (x y : ℕ) (xs ys : List ℕ) → x < y → lex (x ∷ xs) (y ∷ ys) ≡ true
unfolding lex pick
less_first x y xs ys h = rw (lt-ltb x y h)

pub less_head : (x y : ℕ) (xs ys : List ℕ) → lex (x ∷ xs) (y ∷ ys) ≡ true → x ≤ y
less_head x y xs ys e = ⊎_elim (λ m. never e (more_first x y xs ys m)) (λ l. l) (order y x)

pub not_less_head : (x y : ℕ) (xs ys : List ℕ) → lex (x ∷ xs) (y ∷ ys) ≡ false → y ≤ x
not_less_head x y xs ys e = ⊎_elim (λ m. never (less_first x y xs ys m) e) (λ l. l) (order x y)

not_less_self : (xs : List ℕ) → lex xs xs ≡ false
unfolding lex
not_less_self [] = refl
not_less_self (x ∷ xs) = lex-same x x xs xs refl ∙ not_less_self xs

less_not_back : (xs ys : List ℕ) → lex xs ys ≡ true → lex ys xs ≡ false
unfolding lex
less_not_back [] ys e = absurd (false≢true e)
less_not_back (x ∷ xs) [] e = absurd (false≢true e)
less_not_back (x ∷ xs) (y ∷ ys) e =
    ⊎_elim
    (λ (q : x ≡ y). lex-same y x ys xs (sym q) ∙ less_not_back xs ys (sym (lex-same x y xs ys q) ∙ e))
    (λ l. more_first y x ys xs l)
    (eq-or-lt_of_le (less_head x y xs ys e))

not_less_on : (xs ys zs : List ℕ) → length xs ≡ length ys → length ys ≡ length zs → lex ys xs ≡ false → lex zs ys ≡ false → lex zs xs ≡ false
unfolding lex
not_less_on xs ys [] p q e f = refl
not_less_on [] [] (z ∷ zs) p q e f = refl
not_less_on [] (y ∷ ys) (z ∷ zs) p q e f = absurd (omega arith)
not_less_on (x ∷ xs) [] (z ∷ zs) p q e f = absurd (omega arith)
not_less_on (x ∷ xs) (y ∷ ys) (z ∷ zs) p q e f =
    let l : x ≤ y = not_less_head y x ys xs e in
    let m : y ≤ z = not_less_head z y zs ys f in
    ⊎_elim
    (λ (s : x ≡ z).
    let a : y ≡ x = omega arith in
    let b : z ≡ y = omega arith in
    lex-same z x zs xs (sym s) ∙ not_less_on xs ys zs (omega arith) (omega arith) (sym (lex-same y x ys xs a) ∙ e) (sym (lex-same z y zs ys b) ∙ f))
    (λ n. more_first z x zs xs n)
    (eq-or-lt_of_le (le_trans l m))

-- ---- the least

-- g is at least as dear as f
abbrev pub NoLess : Form → Form → Type 0
NoLess f g = lex (key_of g) (key_of f) ≡ false

no_less_on : (f g h : Form) → NoLess f g → NoLess g h → NoLess f h
unfolding key_of
no_less_on f g h a b = not_less_on (key_of f) (key_of g) (key_of h) refl refl a b

lesser_left : (f g : Form) → NoLess (lesser f g) f
unfolding lesser
lesser_left f g =
    ⊎_elim
    (λ e. rw (pick_true _ _ e) (less_not_back (key_of g) (key_of f) e))
    (λ e. rw (pick_false _ _ e) (not_less_self (key_of f)))
    (either (lex (key_of g) (key_of f)))

lesser_right : (f g : Form) → NoLess (lesser f g) g
unfolding lesser
lesser_right f g =
    ⊎_elim (λ e. rw (pick_true _ _ e) (not_less_self (key_of g))) (λ e. rw (pick_false _ _ e) e) (either (lex (key_of g) (key_of f)))

step : Form → Offer → Form
step f o = pick o.allowed (lesser f o.form) f

step_left : (f : Form) (o : Offer) → NoLess (step f o) f
unfolding step
step_left f o =
    ⊎_elim (λ e. rw (pick_true _ _ e) (lesser_left f o.form)) (λ e. rw (pick_false _ _ e) (not_less_self (key_of f))) (either o.allowed)

-- no less than the first, and than each that may be taken
pub first_no_less : (f : Form) (os : List Offer) → NoLess (least f os) f
unfolding least step
first_no_less f [] = not_less_self (key_of f)
first_no_less f (o ∷ os) = no_less_on (least (step f o) os) (step f o) f (first_no_less (step f o) os) (step_left f o)

pub each_no_less : (f : Form) (os : List Offer) (k : ℕ) (d : Offer) → k < length os → (get_or os k d).allowed ≡ true → NoLess (least f os) (get_or os k d).form
unfolding least step
each_no_less f [] k d h t = absurd (omega arith)
each_no_less f (o ∷ os) zero d h t =
    no_less_on (least (step f o) os) (step f o) o.form (first_no_less (step f o) os) (rw (pick_true _ _ t) (lesser_right f o.form))
each_no_less f (o ∷ os) (suc k) d h t = each_no_less (step f o) os k d (omega arith) t

-- and it is one of them: what holds of the first and of each that may be taken holds of it
step_one : (P : Form → Type 0) (f : Form) (o : Offer) → P f → (o.allowed ≡ true → P o.form) → P (step f o)
unfolding step lesser
step_one P f o p q =
    ⊎_elim
    (λ t.
    ⊎_elim
    (λ e. rw (pick_true (lesser f o.form) f t, pick_true o.form f e) (q t))
    (λ e. rw (pick_true (lesser f o.form) f t, pick_false o.form f e) p)
    (either (lex (key_of o.form) (key_of f))))
    (λ t. rw (pick_false (lesser f o.form) f t) p)
    (either o.allowed)

pub data Each (P : Form → Type 0) : List Offer → Type 0 where
  end : Each P []
  also : {o : Offer} {os : List Offer} → (o.allowed ≡ true → P o.form) → Each P os → Each P (o ∷ os)

pub least-one : (P : Form → Type 0) (f : Form) (os : List Offer) → P f → Each P os → P (least f os)
unfolding least step
least-one P f [] p q = p
least-one P f (o ∷ os) p (also q r) = least-one P (step f o) os (step_one P f o p q) r

-- so it is no longer
pub no_longer : (f g : Form) → NoLess f g → f.bytes ≤ g.bytes
unfolding key_of
no_longer f g e = not_less_head g.bytes f.bytes _ _ e

pub least_first : (f : Form) (os : List Offer) → (least f os).bytes ≤ f.bytes
least_first f os = no_longer (least f os) f (first_no_less f os)

pub least_each : (f : Form) (os : List Offer) (k : ℕ) (d : Offer) → k < length os → (get_or os k d).allowed ≡ true → (least f os).bytes ≤ (get_or os k d).form.bytes
least_each f os k d h t = no_longer (least f os) (get_or os k d).form (each_no_less f os k d h t)

-- ---- a local payload: at most a bitmap, and so at most 8,704 bytes over 65,535 positions

pub local_bitmap : (s : Stats) → (local_form s).bytes ≤ bitmap_length (span_of s)
unfolding local_form local_offers bitmap_form
local_bitmap s =
    let h : (local_form s).bytes ≤ 0 + bitmap_length (span_of s) = least_each (items_form 3 false (2 * s.count) s.count) (local_offers s) 3 (always dense_form) (lit< tt) refl in
    omega arith

pub local_short : (s : Stats) → span_of s ≤ 65535 → (local_form s).bytes ≤ 8704
local_short s h = le_trans (local_bitmap s) (omega arith)

-- ---- nothing is below the dense form

zeros_least : (xs : List ℕ) (n : ℕ) → lex xs (replicate n 0) ≡ false
unfolding lex
zeros_least [] n = refl
zeros_least (x ∷ xs) zero = refl
zeros_least (x ∷ xs) (suc n) = ⊎_elim (λ (p : 0 < x). more_first x 0 xs (replicate n 0) p) (λ (z : x ≤ 0). lex-same x 0 xs (replicate n 0) (omega arith) ∙ zeros_least xs n) (order 0 x)

dense_stays : (f : Form) → lesser dense_form f ≡ dense_form
unfolding lesser key_of dense_form order_of pick
dense_stays f = rw (zeros_least (key_of f) 5)

dense_taken : (n : ℕ) → 1 ≤ n → lesser (items_form 3 false (2 * n) n) dense_form ≡ dense_form
unfolding lesser key_of items_form dense_form
dense_taken n h = pick_true _ _ (less_first 0 (2 * n) _ _ (omega arith))

pub dense_local : (s : Stats) → holes_of s ≡ 0 → 1 ≤ s.count → local_form s ≡ dense_form
unfolding local_form local_offers least pick
dense_local s h some = rw (eq-eqb (holes_of s) 0 h, dense_taken s.count some, dense_stays (items_form 4 false (6 * s.runs) s.runs), dense_stays (items_form 7 false (2 * holes_of s) (holes_of s)), dense_stays (bitmap_form false 0 (span_of s)))
