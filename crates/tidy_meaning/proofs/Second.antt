-- The outcome of a second call, with the tidied mesh. What the checks of a mesh ask holds of it where it held of the given one, so they do
-- not refuse it; with outputs of its lengths it is tidied to itself, and with others it is refused by 5. Assumes nothing.
use Prim.Native.Nat.{ℕ, suc, ◌*◌}
use native.Mathlib.Omega.{arith}
use mathlib.Core.Path.{◌≡◌, refl, sym, ap, ◌∙◌}
use mathlib.Core.Bool.{Bool, true, false}
use borrow.Author.Tests.{eq-eqb}
use Rattle.lists.specs.Checks.{first_that_applies}
use Rattle.mesh.specs.Mesh.{Mesh}
use Rattle.job_checks.specs.Refusals.{mesh_checks}
use Rattle.job_checks.proofs.MeshPassed.{mesh_passed}
use Rattle.tidy.specs.Tidy.{tidied}
use Rattle.tidy.specs.Meaning.{Valid}
use Rattle.tidy.proofs.Tidied.{coordinates_long, vertices_long, triangles_long}
use Rattle.tidy.proofs.Twice.{counts_stay}
use Rattle.tidy_mesh.specs.declared.Kept.{Kept}
use Rattle.refusals.specs.Numbers.{refused, given}
use Rattle.tidy_mesh.specs.Outcome.{TidyLent, outputs_of, wrong_outputs, kept_counts, tidy_outcome}
use Rattle.tidy_mesh.proofs.Refused.{by_outputs, by_none}
use Rattle.tidy_meaning.specs.Second.{OutputsFor, NothingChanged, NotRefused}
use Rattle.tidy_mesh.proofs.Passes.{tidied_passes}
use Rattle.tidy_meaning.proofs.Replied.{Replied, as_tidied, as_refused, replied}
use Rattle.tidy_meaning.proofs.Left.{again_left}

pub not_refused : (m : Mesh) → NotRefused m
not_refused m = tidied_passes m

-- what a second call comes to, with the mesh n of these counts and the outputs c: with outputs of its lengths, and where it is refused
abbrev pub Unchanged : TidyLent → Mesh → Kept → Type 0
Unchanged c n k = OutputsFor k c → ((tidy_outcome n c).answer ≡ given k) × NothingChanged n k (tidy_outcome n c).left

abbrev pub ByLengths : TidyLent → Mesh → Kept → Type 0
ByLengths c n k = (j : ℕ) → (tidy_outcome n c).answer ≡ refused j → (j ≡ 5) × (OutputsFor k c → ⊥)

module _ (m : Mesh) (c : TidyLent) (h : first_that_applies (mesh_checks m) ≡ 0) where
  ok : Valid m
  ok = (mesh_passed m h).indices

  right : OutputsFor (kept_counts m) c → wrong_outputs (tidied m) (outputs_of c) ≡ false
  right o =
      rw (
        eq-eqb _ _ (o.coordinates ∙ sym (coordinates_long m)),
        eq-eqb _ _ (o.indices ∙ ap (λ (n : ℕ). 3 * n) (sym (triangles_long m))),
        eq-eqb _ _ (o.firsts ∙ sym (vertices_long m)),
        eq-eqb _ _ (o.causes ∙ sym (triangles_long m)),
      )

  counts : kept_counts (tidied m) ≡ kept_counts m
  counts = λ i. record { vertices = (counts_stay m ok).0 i; triangles = (counts_stay m ok).1 i }

  pub unchanged : Unchanged c (tidied m) (kept_counts m)
  unchanged o = go (replied (tidied m) c)
    where
      go : Replied (tidied m) c (tidy_outcome (tidied m) c)
          → ((tidy_outcome (tidied m) c).answer ≡ given (kept_counts m))
          × NothingChanged (tidied m) (kept_counts m) (tidy_outcome (tidied m) c).left
      go (as_tidied p a l) = (a ∙ ap given counts, rw l (again_left m ok))
      go (as_refused n f i a l) = absurd (omega (arith, f, by_none (tidied m) c (not_refused m h) (right o)))

  pub by_lengths : ByLengths c (tidied m) (kept_counts m)
  by_lengths j r = (go (replied (tidied m) c) (wrong_outputs (tidied m) (outputs_of c)) refl, not_right)
    where
      not_right : OutputsFor (kept_counts m) c → ⊥
      not_right o = let s = (unchanged o).0 in let z : ◌≡◌ {A = ℕ} 0 1 = cc in omega arith

      go : Replied (tidied m) c (tidy_outcome (tidied m) c) → (w : Bool) → wrong_outputs (tidied m) (outputs_of c) ≡ w → j ≡ 5
      go (as_tidied p a l) w v = absurd (let z : ◌≡◌ {A = ℕ} 0 1 = cc in omega arith)
      go (as_refused n f i a l) true v = let e : j ≡ suc n = cc in e ∙ f ∙ by_outputs (tidied m) c (not_refused m h) v
      go (as_refused n f i a l) false v = absurd (omega (arith, f, by_none (tidied m) c (not_refused m h) v))
