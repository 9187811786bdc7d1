-- The windows of rows: how many there are, and where each ends.
-- Assumes nothing.
use mathlib.Core.Path.{◌≡◌, refl, sym, ◌∙◌}
use mathlib.Core.Bool.{Bool, true, false, not}
use Rattle.std.specs.Int.{from_bool}
use mathlib.Core.Logic.{⊎_elim}
use mathlib.Core.List.{List, [], ◌∷◌, ◌++◌}
use Prim.Native.Nat.{ℕ, zero, suc, ◌+◌, ◌-◌, ◌<◌, ◌≤◌}
use native.Mathlib.Numerals.{add-one}
use native.Mathlib.Omega.{arith}
use lib.ListN.{length, get_or, length-append, get_or-append}
use lib.Seq.{get_or_at}
use Rattle.model.proofs.Tests.{either, order, never, strictly, last_or_before, same_or_not, both_left}
use Rattle.gather_core.specs.Seeds.{start_of, same_at, cuts, windows}
use Rattle.gather_core.proofs.Windows.{cuts-same, cuts_more}
use Rattle.planning.specs.Refusals.{given_fit, ends_of}
use Rattle.seeds.specs.Ends.{together, Window}
use Rattle.seeds.proofs.Ends.{Following, rise_following, fit_parts, none_ends, given_ends, given-fit}

-- the test of a row and the next, as the code makes it
together-same : (rows : List ℕ) (i : ℕ) → together (get_or rows i 0) (get_or rows (i + 1) 0) ≡ same_at rows i
unfolding together same_at
together-same rows i = rw (add-one i)

-- ---- how many there are: what a loop has counted after i + 1 rows

pub record Counting (rows : List ℕ) (n i : ℕ) : Type 0 where
  pub within : i ≤ length rows - 1
  pub small : n ≤ i + 1
  pub so : n ≡ length (cuts rows i) + 1

pub counting_start : (rows : List ℕ) → Counting rows 1 0
unfolding cuts
counting_start rows = record { within = omega arith; small = omega arith; so = refl }

pub counting_next : (rows : List ℕ) (n i : ℕ) → Counting rows n i → i + 1 < length rows → (t : Bool) → t ≡ together (get_or rows i 0) (get_or rows (i + 1) 0) → Counting rows (n + from_bool (not t)) (i + 1)
counting_next rows n i c h true q =
    let s = c.so in
    let e : same_at rows i ≡ true = sym (q ∙ together-same rows i) in
    record { within = omega arith; small = omega (arith, c.small); so = rw (add-one i, cuts-same rows i e) (omega arith) }
counting_next rows n i c h false q =
    let s = c.so in
    let e : same_at rows i ≡ false = sym (q ∙ together-same rows i) in
    record { within = omega arith; small = omega (arith, c.small); so = rw (add-one i, cuts_more rows i e, length-append) (omega arith) }

pub counting_end : (rows : List ℕ) (n i : ℕ) → Counting rows n i → length rows ≤ i + 1 → n ≡ length (windows rows)
unfolding windows
counting_end rows n i c h =
    let w = c.within in
    let e : i ≡ length rows - 1 = omega arith in
    rw (length-append, ← e) c.so

-- ---- where they end

-- each end of the list is that of a window that starts where the one before it ends
abbrev Windowed : List ℕ → List ℕ → Type 0
Windowed rows xs = (i : ℕ) → i < length xs → Window rows (start_of xs i) (get_or xs i 0)

start_front : (xs : List ℕ) (e i : ℕ) → i ≤ length xs → start_of (xs ++ (e ∷ [])) i ≡ start_of xs i
unfolding start_of
start_front xs e zero h = refl
start_front xs e (suc i) h = get_or-append xs (e ∷ []) 0 i h

windowed_more : (rows xs : List ℕ) (e : ℕ) → Windowed rows xs → Window rows (start_of xs (length xs)) e → Windowed rows (xs ++ (e ∷ []))
windowed_more rows xs e w last i h =
    let n : length (xs ++ (e ∷ [])) ≡ length xs + 1 = length-append xs (e ∷ []) in
    ⊎_elim
    (λ (q : i ≡ length xs). rw (q, start_front xs e (length xs) (omega arith), get_or_at xs e [] 0 (length xs) refl) last)
    (λ (l : i < length xs). rw (start_front xs e i (omega arith), get_or-append xs (e ∷ []) 0 i l) (w i l))
    (last_or_before (rw (n, add-one) at h))

start_back : (xs : List ℕ) (e : ℕ) → start_of (xs ++ (e ∷ [])) (length (xs ++ (e ∷ []))) ≡ e
unfolding start_of
start_back xs e = rw (length-append, add-one) (get_or_at xs e [] 0 (length xs) refl)

abbrev last_start : List ℕ → ℕ
last_start xs = start_of xs (length xs)

-- the cuts xs of the first m + 1 rows, and the window after the last of them, which goes on to row m
record Cutting (rows xs : List ℕ) (m : ℕ) : Type 0 where
  pub done : Windowed rows xs
  pub tail : last_start xs ≤ m
  pub same : (k : ℕ) → last_start xs ≤ k → k < m → same_at rows k ≡ true

module _ (rows : List ℕ) where
  module _ (xs : List ℕ) (m : ℕ) (c : Cutting rows xs m) where
    -- that window ends after row m
    tail_window : m + 1 ≤ length rows → (m + 1 < length rows → same_at rows m ≡ false) → Window rows (last_start xs) (m + 1)
    tail_window h o =
        let z : m + 1 - 1 ≡ m = omega arith in
        record { some = omega (arith, c.tail); inside = h; same = λ k a l. c.same k a (omega arith); other = λ l. rw z (o l) }

    cutting_same : same_at rows m ≡ true → Cutting rows xs (m + 1)
    cutting_same e = record {
      done = c.done;
      tail = omega (arith, c.tail);
      same = λ k a l. ⊎_elim (λ (q : k ≡ m). rw q e) (λ (u : k < m). c.same k a u) (last_or_before (rw (add-one m) at l));
    }

    cutting_more : m + 1 ≤ length rows → same_at rows m ≡ false → Cutting rows (xs ++ ((m + 1) ∷ [])) (m + 1)
    cutting_more h e =
        let z = start_back xs (m + 1) in
        record { done = windowed_more rows xs (m + 1) c.done (tail_window h (λ l. e)); tail = omega arith; same = λ k a l. absurd (omega arith) }

  cutting_start : Cutting rows (cuts rows 0) 0
  unfolding cuts start_of
  cutting_start = record { done = λ i l. absurd (omega arith); tail = omega arith; same = λ k a l. absurd (omega arith) }

  cutting : (m : ℕ) → m + 1 ≤ length rows → Cutting rows (cuts rows m) m
  cutting zero h = cutting_start
  cutting (suc m) h =
      let c = cutting m (omega arith) in
      ⊎_elim
      (λ e. rw (cuts-same rows m e, ← add-one m) (cutting_same (cuts rows m) m c e))
      (λ e. rw (cuts_more rows m e, ← add-one m) (cutting_more (cuts rows m) m c (omega arith) e))
      (either (same_at rows m))

  -- each window of rows is one
  pub windows_each : 1 ≤ length rows → Windowed rows (windows rows)
  unfolding windows
  windows_each h =
      let e : length rows - 1 + 1 ≡ length rows = omega arith in
      let c = cutting (length rows - 1) (omega arith) in
      windowed_more rows (cuts rows (length rows - 1)) (length rows) c.done (rw e at (tail_window (cuts rows (length rows - 1)) (length rows - 1) c (omega arith) (λ l. absurd (omega arith))))

  -- and from where it starts there is only one
  pub window_only : {a b d : ℕ} → Window rows a b → Window rows a d → b ≡ d
  window_only {a} {b} {d} u v = ⊎_elim (λ (l : b < d). absurd (shorter u v l)) (λ (g : d ≤ b). ⊎_elim (λ (l : d < b). absurd (shorter v u l)) (λ (m : b ≤ d). omega arith) (order d b)) (order b d)
    where
      shorter : {a b d : ℕ} → Window rows a b → Window rows a d → b < d → ⊥
      shorter {a} {b} {d} u v l = never (v.same (b - 1) (omega (arith, u.some)) (omega (arith, u.some))) (u.other (omega (arith, v.inside)))

-- ---- the loop that looks for a window's end: up to j it goes on

pub record Walking (rows : List ℕ) (a j : ℕ) : Type 0 where
  pub begun : a < j
  pub within : j ≤ length rows
  pub same : (k : ℕ) → a ≤ k → suc k < j → same_at rows k ≡ true

module _ (rows : List ℕ) (a : ℕ) where
  module _ (j : ℕ) (k : Walking rows a j) (t : Bool) (q : t ≡ together (get_or rows (j - 1) 0) (get_or rows j 0)) where
    before_same : t ≡ same_at rows (j - 1)
    before_same = let b = k.begun in let e : j - 1 + 1 ≡ j = omega arith in q ∙ rw e at (together-same rows (j - 1))

    pub walking_next : j < length rows → t ≡ true → Walking rows a (j + 1)
    walking_next h e =
        let b = k.begun in
        record {
          begun = omega arith;
          within = omega arith;
          same = λ i l u. ⊎_elim (λ (z : i ≡ j - 1). rw z (sym before_same ∙ e)) (λ (m : i < j - 1). k.same i l (omega arith)) (last_or_before {n = j - 1} (omega arith));
        }

    pub walking_stop : t ≡ false → Window rows a j
    walking_stop e = record { some = k.begun; inside = k.within; same = k.same; other = λ l. sym before_same ∙ e }

-- ---- the ends of seeds, given or windows

pub ends_following : (rows seeds : List ℕ) → 1 ≤ length rows → given_fit rows seeds ≡ true → Following (length rows) (ends_of rows seeds)
ends_following rows seeds h t =
    ⊎_elim
    (λ z.
    let w = windows_each rows h in
    rw (none_ends rows seeds z) (record { some = λ i l. (w i l).some; inside = λ i l. (w i l).inside }))
    (λ nz.
    let some : 1 ≤ length seeds = omega (arith, strictly (omega arith) (λ (e : 0 ≡ length seeds). nz (sym e))) in
    rw (given_ends rows seeds nz) (rise_following (length rows) seeds (both_left _ _ (sym (fit_parts rows seeds some) ∙ sym (given-fit rows seeds nz) ∙ t))))
    (same_or_not (length seeds) 0)
