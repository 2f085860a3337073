-- The outcome from its parts: a refusal before the run, and what follows where there is none. Assumes nothing.
use Prim.Native.Nat.{ℕ, zero, suc}
use mathlib.Core.Path.{◌≡◌, refl, sym, ap, subst}
use Rattle.std.specs.Prelude.{Err}
use Rattle.refusals.specs.declared.Refusal.{Refusal}
use Rattle.refusals.specs.Numbers.{number_of, refused}
use Rattle.job_checks.specs.Job.{Job, Lent}
use Rattle.job_checks.specs.Refusals.{refusal}
use Rattle.job_checks.proofs.HandedUp.{not_0}
use Rattle.job_outcome.specs.Outcome.{Answer, Gives, ended, run_of, unless_refused, outcome}
use Rattle.job_outcome.proofs.Outcomes.{gives}

-- the refusal of the first check that applies
pub gives_unchanged : (j : Job) (b : Lent) (r : Refusal) → number_of r ≡ refusal j b → Gives (outcome j b) (Err r) b
unfolding outcome unless_refused
gives_unchanged j b r e = subst (λ (k : ℕ). Gives (unless_refused k b (ended j b (run_of j b))) (Err r) b) e (go (number_of r) refl (not_0 r refl))
  where
    go : (k : ℕ) → number_of r ≡ k → (k ≡ 0 → ⊥) → Gives (unless_refused k b (ended j b (run_of j b))) (Err r) b
    go zero a w = absurd (w refl)
    go (suc k) a w = gives (ap refused a) refl

pub gives_outcome : (j : Job) (b : Lent) {r : Answer} {left : Lent} → refusal j b ≡ 0 → Gives (ended j b (run_of j b)) r left → Gives (outcome j b) r left
unfolding outcome unless_refused
gives_outcome j b {r} {left} e h = subst (λ (k : ℕ). Gives (unless_refused k b (ended j b (run_of j b))) r left) (sym e) h
