-- What holds where tests 12, 3 and 2 passed: counts that cannot wrap, an entry in the table for each seed.
-- Assumes nothing.
use Rattle.std.proofs.Common.{◌≡◌, ℕ, zero, suc, ◌+◌, ◌/◌, ◌<◌, ◌≤◌, Bool, true, false, eqb, ltb, List, length, sym, refl, ◌∙◌, ⊎_elim, arith, length-set, ltb-false, ltb-true, le-ltb, lt-ltb, eq-eqb, ne_eqb, eqb-true}
use borrow.Author.Tests.{eqb-false}
use Rattle.model.specs.Tests.{pick}
use Rattle.model.specs.Answers.{accepted, refused}
use Rattle.model.proofs.Tests.{either, never, pick_true, pick_false}
use Rattle.gather_core.specs.declared.Gatherer.{Gatherer}
use Rattle.gather_core.specs.Gather.{values_of, answered, kept, impossible, above, early, late, or_else, joins, added, added_to, row_number, Counted, Follows, Goes}

-- ---- a chain of tests that came out 0, or false

pub refuses_not : (t : Bool) (k x : ℕ) → (k ≡ 0 → ⊥) → pick t k x ≡ 0 → (t ≡ false) × (x ≡ 0)
unfolding pick
refuses_not true k x n e = absurd (n e)
refuses_not false k x n e = (refl, e)

pub holds_not : (t x : Bool) → pick t true x ≡ false → (t ≡ false) × (x ≡ false)
unfolding pick
holds_not true x e = never refl e
holds_not false x e = (refl, e)

pub passes : (t : Bool) (k x : ℕ) → (k ≡ 0 → ⊥) → pick t x k ≡ 0 → (t ≡ true) × (x ≡ 0)
unfolding pick
passes true k x n e = (refl, e)
passes false k x n e = absurd (n e)

pub neither : (a b : ℕ) → or_else a b ≡ 0 → (a ≡ 0) × (b ≡ 0)
unfolding or_else
neither zero b e = (refl, e)
neither (suc a) b e = absurd (omega arith)

-- ---- the number of a refusal, and what it makes of the answer and the table

pub first_refuses : (a b : ℕ) → (a ≡ 0 → ⊥) → or_else a b ≡ a
unfolding or_else
first_refuses zero b n = absurd (n refl)
first_refuses (suc a) b n = refl

pub second_decides : (a b : ℕ) → a ≡ 0 → or_else a b ≡ b
unfolding or_else
second_decides a b e = rw e

pub answered_yes : (k : ℕ) (g : Gatherer) → k ≡ 0 → answered k g ≡ accepted (values_of g)
unfolding answered
answered_yes k g e = rw e

pub answered_no : (k : ℕ) (g : Gatherer) → (k ≡ 0 → ⊥) → answered k g ≡ refused k
unfolding answered
answered_no zero g n = absurd (n refl)
answered_no (suc k) g n = refl

pub kept_new : {A : Type 0} (k : ℕ) (old new : A) → k ≡ 0 → kept k old new ≡ new
unfolding kept
kept_new k old new e = rw e

pub kept_old : {A : Type 0} (k : ℕ) (old new : A) → (k ≡ 0 → ⊥) → kept k old new ≡ old
unfolding kept
kept_old zero old new n = absurd (n refl)
kept_old (suc k) old new n = refl

-- ---- tests 12, 3 and 2

-- a record that test 12 lets pass
pub record Able (g : Gatherer) (room : ℕ) : Type 0 where
  pub in_room : g.entries ≤ room
  pub in_rows : g.entries ≤ g.rows
  pub some : (g.rows ≡ 0 → ⊥) → 1 ≤ g.entries
  pub ordered : (g.rows ≡ 0 → ⊥) → g.first ≤ g.last

pub record Passed (g : Gatherer) (room : ℕ) (rising : Bool) (n : ℕ) : Type 0 where
  pub able : Able g room
  pub rises : rising ≡ true
  pub counted : Counted g n

module _ (g : Gatherer) (room : ℕ) where
  possible : impossible g room ≡ false → Able g room
  unfolding impossible
  possible e =
      let a = holds_not _ _ e in
      let b = holds_not _ _ a.1 in
      let with_rows : (g.rows ≡ 0 → ⊥) → (eqb g.entries 0 ≡ false) × (ltb g.last g.first ≡ false) = λ n. holds_not _ _ (sym (pick_false _ _ (ne_eqb _ _ n)) ∙ b.1) in
      record {
        in_room = ltb-false _ _ a.0;
        in_rows = ltb-false _ _ b.0;
        some = λ n. omega (arith, eqb-false g.entries 0 (with_rows n).0);
        ordered = λ n. ltb-false g.last g.first (with_rows n).1;
      }

  able_possible : Able g room → impossible g room ≡ false
  unfolding impossible
  able_possible a =
      pick_false _ _ (le-ltb room g.entries a.in_room) ∙ pick_false _ _ (le-ltb g.rows g.entries a.in_rows)
      ∙ ⊎_elim
      (λ e. pick_true _ _ e)
      (λ e.
      let n = eqb-false g.rows 0 e in
      pick_false _ _ e ∙ pick_false _ _ (ne_eqb g.entries 0 (λ z. omega (arith, a.some n))) ∙ le-ltb g.last g.first (a.ordered n))
      (either (eqb g.rows 0))

  pub passed : (rising : Bool) (n : ℕ) → early g room rising n ≡ 0 → Passed g room rising n
  unfolding early
  passed rising n e =
      let a = refuses_not _ 12 _ (λ z. omega arith) e in
      let b = passes rising 3 _ (λ z. omega arith) a.1 in
      let d = refuses_not _ 2 0 (λ z. omega arith) b.1 in
      let p = possible a.0 in
      record { able = p; rises = b.0; counted = record { few = ltb-false _ _ d.0; in_rows = p.in_rows; some = p.some } }

  pub passing : (rising : Bool) (n : ℕ) → Passed g room rising n → early g room rising n ≡ 0
  unfolding early
  passing rising n p =
      pick_false _ _ (able_possible p.able) ∙ pick_true _ _ p.rises ∙ pick_false _ _ (le-ltb 65535 (g.rows + n) p.counted.few)

pub fits : (after : Gatherer) (room : ℕ) → late after room ≡ 0 → after.entries ≤ room
unfolding late
fits after room e = ltb-false _ _ (refuses_not _ 11 0 (λ z. omega arith) e).0

pub fitting : (after : Gatherer) (room : ℕ) → after.entries ≤ room → late after room ≡ 0
unfolding late
fitting after room h = pick_false _ _ (le-ltb room after.entries h)

-- ---- a single row

pub record After (g : Gatherer) (row : ℕ) : Type 0 where
  pub total : (added g row).rows ≡ g.rows + 1
  pub newest : (added g row).last ≡ row
  pub low : g.entries ≤ (added g row).entries
  pub high : (added g row).entries ≤ g.entries + 1
  pub some : ((g.rows ≡ 0 → ⊥) → 1 ≤ g.entries) → 1 ≤ (added g row).entries

-- a row that joins has a row before it
pub joins_some : (g : Gatherer) (row : ℕ) → joins g row ≡ true → g.rows ≡ 0 → ⊥
unfolding joins
joins_some g row e z = never e (pick_true _ _ (eq-eqb _ _ z))

pub joins_window : (g : Gatherer) (row : ℕ) → joins g row ≡ true → row / 4096 ≡ g.first / 4096
unfolding joins
joins_window g row e = eqb-true _ _ (sym (pick_false _ _ (ne_eqb g.rows 0 (joins_some g row e))) ∙ e)

abbrev pub joined : Gatherer → ℕ → Gatherer
joined g row = record { entries = g.entries; rows = g.rows + 1; first = g.first; last = row }

abbrev pub begun : Gatherer → ℕ → Gatherer
begun g row = record { entries = g.entries + 1; rows = g.rows + 1; first = row; last = row }

pub added-joins : (g : Gatherer) (row : ℕ) → joins g row ≡ true → added g row ≡ joined g row
unfolding added
added-joins g row e = pick_true _ _ e

pub added_begins : (g : Gatherer) (row : ℕ) → joins g row ≡ false → added g row ≡ begun g row
unfolding added
added_begins g row e = pick_false _ _ e

-- either way, of the record x that comes of it
after_of : (g : Gatherer) (row : ℕ) (x : Gatherer) → added g row ≡ x → x.rows ≡ g.rows + 1 → x.last ≡ row → g.entries ≤ x.entries → x.entries ≤ g.entries + 1 → (((g.rows ≡ 0 → ⊥) → 1 ≤ g.entries) → 1 ≤ x.entries) → After g row
after_of g row x e a b d f h = record { total = rw e a; newest = rw e b; low = rw e d; high = rw e f; some = rw e h }

pub after : (g : Gatherer) (row : ℕ) → After g row
after g row =
    ⊎_elim
    (λ e. after_of g row (joined g row) (added-joins g row e) refl refl (omega arith) (omega arith) (λ k. k (joins_some g row e)))
    (λ e. after_of g row (begun g row) (added_begins g row e) refl refl (omega arith) (omega arith) (λ k. omega arith))
    (either (joins g row))

pub added-length : (t : List ℕ) (g : Gatherer) (row : ℕ) → length (added_to t g row) ≡ length t
unfolding added_to
added-length t g row = simp length-set

pub after_counted : (g : Gatherer) (row n : ℕ) → Counted g (suc n) → Counted (added g row) n
after_counted g row n k =
    let a = after g row in
    record { few = omega arith; in_rows = omega arith; some = λ z. a.some k.some }

pub row_admitted : (g : Gatherer) (room row : ℕ) → row_number g room row ≡ 0 → Counted g 1 × ((added g row).entries ≤ room)
unfolding row_number
row_admitted g room row e =
    let a = neither _ _ e in
    ((passed g room (above g row) 1 a.0).counted, fits (added g row) room a.1)

pub last_above : (g : Gatherer) (row : ℕ) → (g.rows ≡ 0 → ⊥) → g.last < row → above g row ≡ true
unfolding above
last_above g row n l = pick_false _ _ (ne_eqb g.rows 0 n) ∙ lt-ltb g.last row l

pub above_last : (g : Gatherer) (row : ℕ) → above g row ≡ true → (g.rows ≡ 0 → ⊥) → g.last < row
unfolding above
above_last g row e n = ltb-true g.last row (sym (pick_false _ _ (ne_eqb g.rows 0 n)) ∙ e)

-- ---- what the quick tests find

module _ (g : Gatherer) (room row : ℕ) where
  pub follows : 1 ≤ g.entries → g.entries ≤ room → g.entries ≤ g.rows → g.rows ≤ 65534 → g.first ≤ g.last → g.last < row → Follows g room row
  follows some in_room in_rows few ordered l =
      let a : Able g room = record { in_room = in_room; in_rows = in_rows; some = λ n. some; ordered = λ n. ordered } in
      let up = last_above g row (λ z. omega arith) l in
      record { some = some; number = passing g room (above g row) 1 (record { able = a; rises = up; counted = record { few = omega arith; in_rows = in_rows; some = a.some } }) }

  -- a row that begins a seed, if there is room
  abbrev pub Begins : Type 0
  Begins = (early g room (above g row) 1 ≡ 0) × (joins g row ≡ false)

  module _ (f : Follows g room row) where
    -- what the tests that it passed say
    pub followed : Passed g room (above g row) 1
    followed = passed g room (above g row) 1 f.number

    some_rows : g.rows ≡ 0 → ⊥
    some_rows z = omega (arith, followed.able.in_rows, f.some)

    pub followed_order : g.first ≤ g.last
    followed_order = followed.able.ordered some_rows

    pub followed_above : g.last < row
    followed_above = above_last g row followed.rises some_rows

    pub followed_all : (1 ≤ g.entries) × (g.entries ≤ room) × (g.entries ≤ g.rows) × (g.rows ≤ 65534) × (g.first ≤ g.last) × (g.last < row)
    followed_all =
        let a = followed.able in
        (f.some, a.in_room, a.in_rows, omega (arith, followed.counted.few), followed_order, followed_above)

    pub goes_on_lem : g.first / 4096 ≡ row / 4096 → Goes true g room row
    unfolding row_number joins
    goes_on_lem w =
        let a = followed.able in
        let j : joins g row ≡ true = pick_false _ _ (ne_eqb g.rows 0 some_rows) ∙ eq-eqb _ _ (sym w) in
        record { in_seed = j; number = second_decides _ _ f.number ∙ fitting (added g row) room (rw (added-joins g row j) a.in_room) }

    -- in another window a row begins a seed
    pub elsewhere : (row / 4096 ≡ g.first / 4096 → ⊥) → Begins
    unfolding joins
    elsewhere w = (f.number, pick_false _ _ (ne_eqb g.rows 0 some_rows) ∙ ne_eqb _ _ w)

  -- and so does the first one
  pub first_row : g.rows ≡ 0 → g.entries ≡ 0 → Begins
  unfolding joins above
  first_row z e =
      let some : (g.rows ≡ 0 → ⊥) → 1 ≤ g.entries = λ n. absurd (n z) in
      let a : Able g room = record { in_room = omega arith; in_rows = omega arith; some = some; ordered = λ n. absurd (n z) } in
      let empty = eq-eqb g.rows 0 z in
      (passing g room (above g row) 1 (record { able = a; rises = pick_true _ _ empty; counted = record { few = omega arith; in_rows = omega arith; some = some } }), pick_true _ _ empty)

  -- where there is room for it, and where there is none
  pub begins : Begins → g.entries < room → Goes false g room row
  unfolding row_number
  begins b free = record { in_seed = b.1; number = second_decides _ _ b.0 ∙ fitting (added g row) room (omega (arith, (after g row).high)) }

  pub no_room : Begins → room ≤ g.entries → row_number g room row ≡ 11
  unfolding row_number late
  no_room b full = second_decides _ _ b.0 ∙ pick_true _ _ (lt-ltb room (added g row).entries (rw (added_begins g row b.1) (omega arith)))

  -- behind rows, what does not follow is refused by one of the first tests
  pub not_following : (g.rows ≡ 0 → ⊥) → (Follows g room row → ⊥) → early g room (above g row) 1 ≡ 0 → ⊥
  not_following n f e = f (record { some = (passed g room (above g row) 1 e).able.some n; number = e })

  -- entries without rows are impossible
  pub unmatched : g.rows ≡ 0 → (g.entries ≡ 0 → ⊥) → row_number g room row ≡ 12
  unfolding row_number early
  unmatched z n =
      let t : impossible g room ≡ true = ⊎_elim (λ t. t) (λ f. absurd (n (omega (arith, (possible g room f).in_rows)))) (either (impossible g room)) in
      let e : early g room (above g row) 1 ≡ 12 = pick_true _ _ t in
      first_refuses _ _ (λ y. omega arith) ∙ e

  -- the entry of one that goes on stands in the table, and its total fits one
  pub goes_on-fits : Goes true g room row → (1 ≤ g.entries) × (g.entries ≤ room) × (g.rows + 1 ≤ 65535)
  goes_on-fits o =
      let a = row_admitted g room row o.number in
      (a.0.some (joins_some g row o.in_seed), rw (added-joins g row o.in_seed) at a.1, a.0.few)

  -- and of one that begins a seed
  pub begins_fits : Goes false g room row → (g.entries + 1 ≤ room) × (g.rows + 1 ≤ 65535)
  begins_fits o =
      let a = row_admitted g room row o.number in
      (rw (added_begins g row o.in_seed) at a.1, a.0.few)
