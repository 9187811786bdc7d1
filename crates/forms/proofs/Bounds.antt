-- What a local form asks beside T3 of the list that it holds: dense and missing of the span, lists and runs of what their fields hold.
-- Assumes nothing.
use mathlib.Core.Path.{◌≡◌}
use mathlib.Core.Bool.{true}
use mathlib.Core.List.{List}
use Prim.Native.Nat.{ℕ, suc, ◌^◌, ◌≤◌}
use native.Mathlib.Omega.{arith}
use Rattle.fields.specs.Le.{Bytes}
use Rattle.fields.proofs.Laws.{le_bound}
use Rattle.model.specs.Tests.{pick}
use Rattle.model.specs.Lists.{Rising}
use Rattle.model.proofs.Rising.{rising_strict, rising_tests, rising_wider}
use Rattle.model.proofs.Tests.{get_or-tabulate}
use Rattle.search.specs.Search.{entry}
use Rattle.lists.specs.Lists.{list_accepts, list_names}
use Rattle.lists.proofs.Laws.{names-length, list_rising}
use Rattle.lists.proofs.Dense.{dense_whole}
use Rattle.missing.proofs.Laws.{missing_narrow}
use Rattle.runs.specs.Runs.{runs_accepts, runs_names, run_count, most_of}
use Rattle.runs.proofs.Parts.{accepts_parts}
use Rattle.runs.proofs.Names.{names_within}
use Rattle.forms.specs.Forms.{by_tag, local_accepts}

module _ (xs : List ℕ) (span n : ℕ) where
  pub dense_all : local_accepts 1 xs span n ≡ true → n ≡ span
  unfolding local_accepts by_tag pick
  dense_all ok = dense_whole xs span n ok

  pub missing_span : local_accepts 7 xs span n ≡ true → span ≤ 65535
  unfolding local_accepts by_tag pick
  missing_span ok = missing_narrow xs span n ok

  -- over the width w of a field
  pub items_hold : (w : ℕ) → list_accepts w xs span n ≡ true → Bytes xs → Rising 0 (256 ^ w) (list_names w xs n)
  unfolding list_names entry
  items_hold w ok bytes =
      let size = names-length w xs n in
      let r = list_rising w xs span n ok in
      rising_tests 0 (256 ^ w) (list_names w xs n)
      (λ i l. omega arith)
      (λ i l. rw (get_or-tabulate (entry w xs 0 w) n i 0 (omega arith)) (le_bound w xs _ bytes))
      (λ i l. rising_strict r i (suc i) (omega arith) l)

  pub starts_hold : (w : ℕ) → runs_accepts w xs span n ≡ true → Rising 0 (256 ^ w) (runs_names w xs (run_count w xs))
  unfolding most_of
  starts_hold w ok = rising_wider (omega arith) (omega arith) (names_within (accepts_parts w xs span n ok))
