-- The records filled: each seed a segment, cut by cut.
-- Assumes nothing.
use mathlib.Core.Path.{◌≡◌, refl, sym, ◌∙◌}
use mathlib.Core.Logic.{⊎_elim}
use mathlib.Core.List.{List}
use Prim.Native.Nat.{ℕ, ◌+◌, ◌<◌, ◌≤◌}
use native.Mathlib.Omega.{arith}
use lib.ListN.{length}
use Rattle.model.proofs.Tests.{order, same_or_not}
use Rattle.links.specs.Tables.{base, records, field, stat_at, put, Started}
use Rattle.links.proofs.Tables.{put-length, put_here, put_else, put_stat_lem, records-field, records_stat, records_far}

pub record Filling (n i : ℕ) (w₀ w : List ℕ) : Type 0 where
  pub in_n : i ≤ n
  pub len : length w ≡ length w₀
  pub ends : (x : ℕ) → x < i → field w x 0 ≡ x + 1
  pub backs : (x : ℕ) → x < i → field w (x + 1) 1 ≡ x
  pub stats : (x : ℕ) → stat_at w x ≡ stat_at w₀ x

pub filling_none : (n : ℕ) (w : List ℕ) → Filling n 0 w w
filling_none n w = record { in_n = omega arith; len = refl; ends = λ x h. absurd (omega arith); backs = λ x h. absurd (omega arith); stats = λ x. refl }

pub filling_more : (n i : ℕ) (w₀ w w₁ w₂ : List ℕ) → base n ≤ length w₀ → i < n → w₁ ≡ put w i 0 (i + 1) → w₂ ≡ put w₁ (i + 1) 1 i → Filling n i w₀ w → Filling n (i + 1) w₀ w₂
filling_more n i w₀ w w₁ w₂ room h e₁ e₂ f = rw (e₂, e₁) (record {
  in_n = omega arith;
  len = put-length (put w i 0 (i + 1)) (i + 1) 1 i ∙ put-length w i 0 (i + 1) ∙ f.len;
  ends = λ x l. put_else (put w i 0 (i + 1)) (i + 1) 1 i x 0 (λ y. omega arith) ∙ ⊎_elim
      (λ y. rw y (put_here w i 0 (i + 1) (omega (arith, f.len))))
      (λ ny. put_else w i 0 (i + 1) x 0 (λ y. ny (omega arith)) ∙ f.ends x (omega arith))
      (same_or_not x i);
  backs = λ x l. ⊎_elim
      (λ y. rw y (put_here (put w i 0 (i + 1)) (i + 1) 1 i (omega (arith, f.len, put-length w i 0 (i + 1)))))
      (λ ny. put_else (put w i 0 (i + 1)) (i + 1) 1 i (x + 1) 1 (λ y. ny (omega arith)) ∙ put_else w i 0 (i + 1) (x + 1) 1 (λ y. omega arith) ∙ f.backs x (omega arith))
      (same_or_not x i);
  stats = λ x. put_stat_lem (put w i 0 (i + 1)) (i + 1) 1 i x (omega arith) ∙ put_stat_lem w i 0 (i + 1) x (omega arith) ∙ f.stats x;
})

-- the statistics in the records, where those of the words are the same
records-same : (n : ℕ) (w₀ w : List ℕ) → ((x : ℕ) → stat_at w x ≡ stat_at w₀ x) → (x : ℕ) → stat_at (records n w) x ≡ stat_at (records n w₀) x
unfolding stat_at
records-same n w₀ w e x = ⊎_elim
    (λ h. (λ i. record { first = far h 2 i; last = far h 3 i; count = far h 4 i; runs = far h 5 i }))
    (λ h. sym (records_stat n w x h) ∙ e x ∙ records_stat n w₀ x h)
    (order n x)
  where
    far : n < x → (k : ℕ) → field (records n w) x k ≡ field (records n w₀) x k
    far h k = records_far n w x k h ∙ sym (records_far n w₀ x k h)

pub started : (n i : ℕ) (w₀ w w₁ : List ℕ) → base n ≤ length w₀ → n ≤ i → w₁ ≡ put w n 0 0 → Filling n i w₀ w → Started n (records n w₀) (records n w₁)
started n i w₀ w w₁ room l e f = rw e (record {
  ends = λ x h. sym (records-field n (put w n 0 0) x 0 (omega arith) (omega arith)) ∙ put_else w n 0 0 x 0 (λ y. omega arith) ∙ f.ends x (omega arith);
  end = sym (records-field n (put w n 0 0) n 0 (omega arith) (omega arith)) ∙ put_here w n 0 0 (omega (arith, f.len));
  backs = λ x h. sym (records-field n (put w n 0 0) (x + 1) 1 (omega arith) (omega arith)) ∙ put_else w n 0 0 (x + 1) 1 (λ y. omega arith) ∙ f.backs x (omega arith);
  stats = records-same n w₀ (put w n 0 0) (λ x. put_stat_lem w n 0 0 x (omega arith) ∙ f.stats x);
})
