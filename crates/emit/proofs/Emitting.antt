-- Bytes written one piece after the other into a lent slice: what stands there, and what is still to come.
-- Assumes nothing.
use mathlib.Core.Path.{◌≡◌, refl, sym, ap, ◌∙◌}
use mathlib.Core.List.{List, [], ◌++◌, append_assoc, append-nil}
use Prim.Native.Nat.{ℕ, ◌+◌, ◌≤◌}
use native.Mathlib.Nat.{add-zero}
use native.Mathlib.Omega.{arith}
use lib.ListN.{length, length-append}
use lib.Seq.{length-sets}
use Rattle.fields.specs.Le.{digits, put}
use Rattle.fields.proofs.Laws.{length_digits}
use Rattle.model.proofs.Sets.{sets-append}
use Rattle.emit.specs.Written.{Written}

-- of the whole, which goes from at on, the rest goes from p on, and what comes before it stands in out
pub record Emitting (whole before : List ℕ) (at p : ℕ) (rest out : List ℕ) : Type 0 where
  pub done : List ℕ
  pub wrote : Written done at before out p
  pub cut : whole ≡ done ++ rest

-- a piece, and one behind it
pub written_more : {us vs before mid after : List ℕ} {at p q : ℕ} → Written us at before mid p → Written vs p mid after q → Written (us ++ vs) at before after q
written_more {us} {vs} {before} {at = at} a b =
    record {
      stands = b.stands ∙ rw (a.stands, a.behind) (sym (sets-append us vs before at));
      behind = omega (arith, a.behind, b.behind, length-append us vs);
    }

pub written-put : (n v at : ℕ) {before after : List ℕ} {q : ℕ} → after ≡ put n before at v → q ≡ at + n → Written (digits n v) at before after q
unfolding put
written-put n v at e l = record { stands = e; behind = rw length_digits l }

pub written-length : {vs before after : List ℕ} {at q : ℕ} → Written vs at before after q → length after ≡ length before
written-length {vs} {before} {at = at} w = rw w.stands (length-sets before at vs)

pub emitting_start : (whole before : List ℕ) (at : ℕ) → Emitting whole before at at whole before
emitting_start whole before at = record { done = []; wrote = record { stands = refl; behind = sym (add-zero at) }; cut = refl }

module _ {whole before : List ℕ} {at p : ℕ} {rest out : List ℕ} (s : Emitting whole before at p rest out) where
  pub emitting_next : {vs more out' : List ℕ} {q : ℕ} → Written vs p out out' q → rest ≡ vs ++ more → Emitting whole before at q more out'
  emitting_next {vs} w e = record { done = s.done ++ vs; wrote = written_more s.wrote w; cut = s.cut ∙ rw (e, append_assoc) }

  pub emitting_length : length out ≡ length before
  emitting_length = written-length s.wrote

  -- the next piece has room where the whole has
  pub emitting_room : (vs more : List ℕ) → rest ≡ vs ++ more → at + length whole ≤ length before → p + length vs ≤ length out
  emitting_room vs more e h =
      let n : length whole ≡ length s.done + (length vs + length more) = ap length s.cut ∙ length-append s.done rest ∙ rw e (omega (arith, length-append vs more)) in
      omega (arith, n, s.wrote.behind, emitting_length)

  pub emitting_end : rest ≡ [] → Written whole at before out p
  emitting_end e = rw (s.cut, e, append-nil) s.wrote
