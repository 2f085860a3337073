-- What is known of the lent lengths where none of 3, 15 and 4 applies, in a build and in an update; and that 18 comes behind them. By the laws
-- of checks. Assumes nothing.
use Prim.Native.Nat.{ℕ, ◌+◌}
use native.Mathlib.Omega.{arith}
use mathlib.Core.Path.{◌≡◌, ap, ◌∙◌}
use mathlib.Core.Bool.{Bool, true, false, not, ◌||◌}
use mathlib.Core.List.{List, [], ◌∷◌}
use lib.Dec.{ltb, eqb}
use lib.ListN.{length}
use borrow.Author.Tests.{ltb-false, eqb-true, not-false}
use Rattle.lists.specs.Checks.{Check, first_that_applies}
use Rattle.lists.proofs.Checks.{Numbered, neither, none_applies, by_group, past_group}
use Rattle.facet_index.specs.Index.{Index}
use Rattle.facet_index.specs.Refusals.{wrong_lengths, build_checks, early_checks, update_checks, Lengths}

lengths : (t names starts list : ℕ) → wrong_lengths t names starts list ≡ false → Lengths t names starts list
lengths t names starts list h =
    let x = neither (not (eqb starts (t + 1)) || ltb 1048576 names) (not (eqb list names)) h in
    let y = neither (not (eqb starts (t + 1))) (ltb 1048576 names) x.0 in
    record {
      few_names = ltb-false 1048576 names y.1;
      starts_long = eqb-true starts (t + 1) (not-false (eqb starts (t + 1)) y.0);
      list_long = eqb-true list names (not-false (eqb list names) x.1);
    }

pub build_accepted : (t : ℕ) (names : List ℕ) (i : Index) → first_that_applies (build_checks t names i) ≡ 0
    → Lengths t (length names) (length i.starts) (length i.list)
build_accepted t names i z =
    let passed = none_applies (build_checks t names i) (omega arith, (omega arith, (omega arith, tt))) z in
    lengths t (length names) (length i.starts) (length i.list) passed.1.0

-- no check has the number 0
pub early_numbered : (t : ℕ) (old names : List ℕ) (i : Index) → Numbered (early_checks t old names i)
early_numbered t old names i = (omega arith, (omega arith, (omega arith, tt)))

pub update_accepted : (t : ℕ) (old names : List ℕ) (i : Index) → first_that_applies (early_checks t old names i) ≡ 0
    → Lengths t (length names) (length i.starts) (length i.list) × (length old ≡ length names)
update_accepted t old names i z =
    let passed = none_applies (early_checks t old names i) (early_numbered t old names i) z in
    let x = neither (wrong_lengths t (length names) (length i.starts) (length i.list)) (not (eqb (length old) (length names))) passed.1.0 in (
      lengths t (length names) (length i.starts) (length i.list) x.0,
      eqb-true (length old) (length names) (not-false (eqb (length old) (length names)) x.1),
    )

-- ---- 18 behind the others

module _ (t : ℕ) (old names : List ℕ) (i : Index) where
  abbrev stale_check : Bool → List Check
  stale_check current = record { applies = not current; number = 18 } ∷ []

  -- a number of the others ends it
  pub refused_early : (current : Bool) → (first_that_applies (early_checks t old names i) ≡ 0 → ⊥)
      → first_that_applies (update_checks t old names i current) ≡ first_that_applies (early_checks t old names i)
  refused_early current h = by_group (early_checks t old names i) (stale_check current) h

  module _ (current : Bool) (z : first_that_applies (early_checks t old names i) ≡ 0) where
    past_others : first_that_applies (update_checks t old names i current) ≡ first_that_applies (stale_check current)
    past_others = past_group (early_checks t old names i) (stale_check current) (early_numbered t old names i) z

    pub refused_stale : current ≡ false → first_that_applies (update_checks t old names i current) ≡ 18
    refused_stale e = past_others ∙ ap (λ (b : Bool). first_that_applies (stale_check b)) e

    pub not_refused : current ≡ true → first_that_applies (update_checks t old names i current) ≡ 0
    not_refused e = past_others ∙ ap (λ (b : Bool). first_that_applies (stale_check b)) e
