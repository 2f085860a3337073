-- A refusal that a `?` hands up: it has the number that the check gave, which is not 0. Assumes nothing.
use Prim.Native.Nat.{ℕ, ◌<◌}
use native.Mathlib.Omega.{arith}
use mathlib.Core.Path.{◌≡◌, ap, ◌∙◌}
use Rattle.std.specs.Prelude.{Result}
use Rattle.std.specs.Result.{IsErrAnd}
use Rattle.std.proofs.lemmas.Result.{err_from_is_err_and}
use Rattle.refusals.specs.declared.Refusal.{Refusal}
use Rattle.refusals.specs.Numbers.{number_of, refusal_number}

some_number : (r : Refusal) → 0 < number_of r
some_number r = grind arith

pub not_0 : (r : Refusal) {n : ℕ} → number_of r ≡ n → n ≡ 0 → ⊥
not_0 r e z = omega (arith, some_number r)

pub handed_up : (answer : Result (Unit {0}) Refusal) (r : Refusal) {n : ℕ} → IsErrAnd answer (λ s. s ≡ r) → number_of r ≡ n → refusal_number answer ≡ n
handed_up answer r given e =
    let p = err_from_is_err_and answer given in
    ap refusal_number p.1 ∙ ap number_of p.2 ∙ e
