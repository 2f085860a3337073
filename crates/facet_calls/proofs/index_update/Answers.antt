-- `facet_calls::index_update`: where a check of numbers and names refuses, it is not looked whether the lent index is another; what would have been
-- told is by the law that it can be told (`index_told`). Assumes nothing.
use Prim.Native.Nat.{ℕ}
use mathlib.Core.Path.{◌≡◌, refl, sym, ap, ◌∙◌}
use mathlib.Core.List.{List}
use borrow.Author.Rules.{rules}
use Rattle.std.specs.Prelude.{Result, Err}
use Rattle.lists.specs.Checks.{first_that_applies}
use Rattle.refusals.specs.declared.Refusal.{Refusal}
use Rattle.refusals.specs.Numbers.{number_of, refusal_number}
use Rattle.facet_index.specs.Index.{Index}
use Rattle.facet_index.specs.Refusals.{early_checks, Updates}
use Rattle.facet_index.proofs.Accepted.{refused_early}
use Rattle.facet_index.proofs.Sight.{index_told}
use Rattle.facet_calls.proofs.index_update.Goals as goal

-- no refusal has the number 0
not_zero : (r : Refusal) → number_of r ≡ 0 → ⊥
not_zero r e = search rules

-- a refusal by one of the early checks is that of the update
refused : {A : Type 0} {t : ℕ} {old names : List ℕ} {lent : Index} (answer : Result A Refusal) (r : Refusal) → answer ≡ Err r
    → number_of r ≡ first_that_applies (early_checks t old names lent) → Updates t old names lent (refusal_number answer) lent
refused {t = t} {old} {names} {lent} answer r e h =
    let x = index_told t old lent in
    let n : refusal_number answer ≡ number_of r = ap refusal_number e in
    record {
      current = x.0;
      told = x.1;
      numbered = n ∙ h ∙ sym (refused_early t old names lent x.0 (λ z. not_zero r (h ∙ z)));
      leaves = record { made = λ z. absurd (not_zero r (sym n ∙ z)); unchanged = λ _. refl };
    }

pub returns-in_err-update_refusal : goal.returns-in_err-update_refusal
returns-in_err-update_refusal c = refused _ c.in_err-update_refusal.field-0.0 (search rules) c.in_err-update_refusal.ensures
