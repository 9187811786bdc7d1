-- `contains` is membership among the deleted ordinals, which rise below the row count.
-- Assumes nothing.
use mathlib.Core.Path.{◌≡◌, refl, sym, ap}
use mathlib.Core.Bool.{true}
use mathlib.Core.Logic.{⊎_elim}
use mathlib.Core.List.{List, [], ◌∷◌}
use Prim.Native.Nat.{ℕ, ◌<◌}
use lib.ListN.{length, get_or}
use Rattle.fields.specs.Le.{Bytes}
use Rattle.model.specs.Lists.{Rising, none, has, below}
use Rattle.model.specs.Answers.{accepted}
use Rattle.model.proofs.Tests.{either, pick_true, pick_false}
use Rattle.model.proofs.Standing.{has_at, has_index}
use Rattle.bodies.proofs.Named.{names_rising}
use Rattle.deletion.specs.Reading.{section_number, deleted_of, sound, contains_answer}
use Rattle.std.specs.Prelude.{Option, Some, None}
use Rattle.deletion.specs.declared.Coded.{Coded}
use Rattle.deletion.proofs.Sections.{answers, number-sound, coded_accepted}

sound_rising : (rows : ℕ) (s : Option Coded) (body : List ℕ) → Bytes body → sound rows s body ≡ true → Rising 0 rows (deleted_of rows s body)
unfolding deleted_of
sound_rising rows None body b e = none
sound_rising rows (Some s) body b e = names_rising s.tag rows body (coded_accepted rows body refl e) b

module _ (rows limit : ℕ) (s : Option Coded) (body : List ℕ) (ok : section_number rows limit s body ≡ 0) where
  pub contains_deleted : (i : ℕ) → i < length (deleted_of rows s body) → contains_answer rows limit s body (get_or (deleted_of rows s body) i 0) ≡ accepted (1 ∷ [])
  unfolding contains_answer
  contains_deleted i h = sym (answers (sym ok) refl (ap (λ (n : ℕ). n ∷ []) (sym (pick_true 1 0 (has_at (deleted_of rows s body) i h)))))

  module _ (b : Bytes body) where
    pub deleted_rising : Rising 0 rows (deleted_of rows s body)
    deleted_rising = sound_rising rows s body b (number-sound rows limit s body ok)

    pub contains_other : (o : ℕ) → ((i : ℕ) → i < length (deleted_of rows s body) → get_or (deleted_of rows s body) i 0 ≡ o → ⊥) → contains_answer rows limit s body o ≡ accepted (0 ∷ [])
    unfolding contains_answer
    contains_other o away =
        ⊎_elim
        (λ h. let found = has_index deleted_rising o h in absurd (away (below (deleted_of rows s body) o) found.0 found.1))
        (λ h. sym (answers (sym ok) refl (ap (λ (n : ℕ). n ∷ []) (sym (pick_false 1 0 h)))))
        (either (has (deleted_of rows s body) o))
