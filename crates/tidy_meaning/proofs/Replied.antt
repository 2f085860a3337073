-- The two ways of a call: no check applied, and the mesh was tidied; or one of the five did, and nothing was changed. No check has the
-- number 0, so the number tells a caller from C which. Of what is lent, the lengths alone tell which answer is given. Assumes nothing.
use Prim.Native.Nat.{ℕ, zero, suc}
use native.Mathlib.Decide.{ℕ_discrete}
use native.Mathlib.Omega.{arith}
use mathlib.Core.Path.{◌≡◌, refl, sym, ap, ◌∙◌}
use mathlib.Core.Logic.{◌⊎◌, inl, inr}
use mathlib.Core.List.{[], ◌∷◌, ◌++◌, Memᴰ}
use Rattle.lists.specs.Checks.{first_that_applies}
use Rattle.lists.proofs.Checks.{first_is}
use Rattle.mesh.specs.Mesh.{Mesh}
use Rattle.job_checks.specs.Refusals.{mesh_checks}
use Rattle.tidy_mesh.specs.declared.Kept.{Kept}
use Rattle.tidy_mesh.specs.declared.Outputs.{Outputs}
use Rattle.refusals.specs.Numbers.{refused, given}
use Rattle.tidy_mesh.specs.Outcome.{TidyLent, outputs_of, wrong_outputs, tidy_checks, tidy_refusal, kept_counts, tidy_left, tidy_number, TidyOutcome, tidy_by, tidy_outcome, GivesTidy}
use Rattle.tidy_mesh.proofs.Refused.{by_mesh}
use Rattle.c_tidy.specs.declared.SdfTidyAnswer.{SdfTidyAnswer}
use Rattle.c_tidy.specs.Tidy.{tidy_out, GivesTidyC}
use Rattle.tidy_meaning.specs.Tidied.{kept_in}
use Rattle.tidy_meaning.specs.Refused.{tidy_numbers}

pub data Replied (m : Mesh) (b : TidyLent) (o : TidyOutcome) : Type 0 where
  as_tidied : tidy_refusal m b ≡ 0 → o.answer ≡ given (kept_counts m) → o.left ≡ tidy_left m → Replied m b o
  as_refused : (n : ℕ) → suc n ≡ tidy_refusal m b → Memᴰ (suc n) tidy_numbers → o.answer ≡ refused (suc n) → o.left ≡ b → Replied m b o

pub replied : (m : Mesh) (b : TidyLent) → Replied m b (tidy_outcome m b)
unfolding tidy_outcome tidy_refusal
replied m b = go (tidy_refusal m b) refl (first_is (tidy_checks m b))
  where
    go : (n : ℕ) → n ≡ tidy_refusal m b → (n ≡ 0) ⊎ Memᴰ n tidy_numbers → Replied m b (tidy_by n m b)
    go zero e h = as_tidied (sym e) refl refl
    go (suc n) e (inl z) = absurd (omega arith)
    go (suc n) e (inr h) = as_refused n e h refl refl

-- ---- answered by the kept counts

-- the mesh passed its checks, and the counts and outputs are those of the tidied mesh
pub record WasTidied (m : Mesh) (b : TidyLent) (k : Kept) : Type 0 where
  pub passed : first_that_applies (mesh_checks m) ≡ 0
  pub counts : k ≡ kept_counts m
  pub leaves : (tidy_outcome m b).left ≡ tidy_left m

module _ (m : Mesh) (b : TidyLent) where
  mesh_passes : tidy_refusal m b ≡ 0 → first_that_applies (mesh_checks m) ≡ 0
  mesh_passes h = go (ℕ_discrete (first_that_applies (mesh_checks m)) 0)
    where
      go : Dec (first_that_applies (mesh_checks m) ≡ 0) → first_that_applies (mesh_checks m) ≡ 0
      go (yes z) = z
      go (no z) = absurd (z (sym (by_mesh m b z) ∙ h))

  pub was_tidied : (k : Kept) → (tidy_outcome m b).answer ≡ given k → WasTidied m b k
  was_tidied k h = go (replied m b)
    where
      go : Replied m b (tidy_outcome m b) → WasTidied m b k
      go (as_tidied p a l) = record { passed = mesh_passes p; counts = cc; leaves = l }
      go (as_refused n f i a l) = absurd (let z : ◌≡◌ {A = ℕ} 0 1 = cc in omega arith)

-- ---- a call from C, as the call that it makes

module _ {o : TidyOutcome} {answer : SdfTidyAnswer} {left : TidyLent} (g : GivesTidyC o answer left) where
  pub of_c : GivesTidy o o.answer left
  of_c = record { answers = refl; number = refl; vertices = refl; triangles = refl; leaves = g.leaves }

  pub tidy_number_of : answer.number ≡ tidy_number o.answer
  tidy_number_of = ap (λ (a : SdfTidyAnswer). a.number) g.answers

module _ (m : Mesh) (b : TidyLent) {answer : SdfTidyAnswer} {left : TidyLent} (g : GivesTidyC (tidy_outcome m b) answer left) where
  pub tidied_for_c : answer.number ≡ 0 → (tidy_outcome m b).answer ≡ given (kept_in answer)
  tidied_for_c z = go (replied m b)
    where
      go : Replied m b (tidy_outcome m b) → (tidy_outcome m b).answer ≡ given (kept_in answer)
      go (as_tidied p a l) = a ∙ ap (λ (r : SdfTidyAnswer). given (kept_in r)) (sym (g.answers ∙ ap tidy_out a))
      go (as_refused n f i a l) = absurd (omega (arith, sym z ∙ tidy_number_of g, ap tidy_number a))

  pub refused_for_c : (answer.number ≡ 0 → ⊥) → (tidy_outcome m b).answer ≡ refused answer.number
  refused_for_c h = go (replied m b)
    where
      go : Replied m b (tidy_outcome m b) → (tidy_outcome m b).answer ≡ refused answer.number
      go (as_tidied p a l) = absurd (h (tidy_number_of g ∙ ap tidy_number a))
      go (as_refused n f i a l) = a ∙ ap refused (sym (tidy_number_of g ∙ ap tidy_number a))

-- ---- two calls with outputs of the same lengths

module _ (m : Mesh) (b b' : TidyLent) (e : outputs_of b ≡ outputs_of b') where
  pub one_tidy_answer : (tidy_outcome m b).answer ≡ (tidy_outcome m b').answer
  unfolding tidy_outcome tidy_refusal
  one_tidy_answer = ap (λ (l : Outputs). (tidy_by (number l) m b).answer) e ∙ alike (number (outputs_of b'))
    where
      number : Outputs → ℕ
      number l = first_that_applies (mesh_checks m ++ record { applies = wrong_outputs m l; number = 5 } ∷ [])

      alike : (n : ℕ) → (tidy_by n m b).answer ≡ (tidy_by n m b').answer
      alike zero = refl
      alike (suc n) = refl

  pub tidied_left : tidy_number (tidy_outcome m b).answer ≡ 0 → (tidy_outcome m b).left ≡ (tidy_outcome m b').left
  tidied_left z = go (replied m b)
    where
      go : Replied m b (tidy_outcome m b) → (tidy_outcome m b).left ≡ (tidy_outcome m b').left
      go (as_tidied p a l) = l ∙ sym (was_tidied m b' (kept_counts m) (sym one_tidy_answer ∙ a)).leaves
      go (as_refused n f i a l) = absurd (omega (arith, ap tidy_number a))
