-- The outcome by the number that is given; and what is known where it is 0: each test that did not apply is a fact. Assumes nothing.
use Prim.Native.Nat.{ℕ, zero, suc, ◌*◌}
use native.Mathlib.Omega.{arith}
use mathlib.Core.Path.{◌≡◌, refl, sym, ap, ◌∙◌}
use mathlib.Core.Bool.{Bool, true, false, not, cond, ◌||◌}
use mathlib.Core.List.{List, [], ◌∷◌}
use lib.Dec.{eqb}
use lib.ListN.{length}
use borrow.Author.Tests.{eqb-true, not-false}
use Rattle.std.specs.Prelude.{Result, Err}
use Rattle.lists.specs.Checks.{Check, first_that_applies}
use Rattle.lists.proofs.Checks.{neither, by_group, past_group}
use Rattle.mesh.specs.Mesh.{Mesh}
use Rattle.job_checks.specs.Refusals.{mesh_checks}
use Rattle.refusals.specs.declared.Refusal.{Refusal}
use Rattle.refusals.specs.Numbers.{number_of, refused, given, reply_of}
use Rattle.job_checks.proofs.HandedUp.{not_0}
use Rattle.job_checks.proofs.MeshPassed.{mesh_passed}
use Rattle.tidy.specs.Tidy.{vertex_total, triangle_total}
use Rattle.tidy_mesh.specs.declared.Kept.{Kept}
use Rattle.tidy_mesh.specs.Outcome.{TidyLent, outputs_of, wrong_outputs, tidy_refusal, kept_counts, tidy_left, tidy_by, tidy_outcome, GivesTidy, Tidyable}

module _ (m : Mesh) (b : TidyLent) where
  -- ---- the outcome by the number

  gives_refusal : (n : ℕ) → (n ≡ 0 → ⊥) → GivesTidy (tidy_by n m b) (refused n) b
  gives_refusal zero h = absurd (h refl)
  gives_refusal (suc n) h = record { answers = refl; number = refl; vertices = refl; triangles = refl; leaves = refl }

  -- an answer by the refusal that has that number
  pub refused_by_lem : {answer : Result Kept Refusal} (r : Refusal) → answer ≡ Err r → number_of r ≡ tidy_refusal m b
      → GivesTidy (tidy_outcome m b) (reply_of answer) b
  unfolding tidy_outcome
  refused_by_lem r e h = rw (e, sym h) (gives_refusal (number_of r) (not_0 r refl))

  pub tidied_by_lem : {k : Kept} {left : TidyLent} → tidy_refusal m b ≡ 0 → k ≡ kept_counts m → left ≡ tidy_left m
      → GivesTidy (tidy_outcome m b) (given k) left
  unfolding tidy_outcome
  tidied_by_lem e f g =
      rw e (record {
        answers = ap given f;
        number = refl;
        vertices = ap (λ (k : Kept). k.vertices) f;
        triangles = ap (λ (k : Kept). k.triangles) f;
        leaves = g;
      })

  -- ---- the number

  abbrev fifth : List Check
  fifth = record { applies = wrong_outputs m (outputs_of b); number = 5 } ∷ []

  -- a number of the mesh's checks is given
  pub by_mesh : (first_that_applies (mesh_checks m) ≡ 0 → ⊥) → tidy_refusal m b ≡ first_that_applies (mesh_checks m)
  unfolding tidy_refusal
  by_mesh h = by_group (mesh_checks m) fifth h

  -- where there is none, 5 or 0
  module _ (passed : first_that_applies (mesh_checks m) ≡ 0) where
    past_mesh : tidy_refusal m b ≡ cond (wrong_outputs m (outputs_of b)) 5 0
    unfolding tidy_refusal
    past_mesh = past_group (mesh_checks m) fifth (omega arith) passed

    pub by_outputs : wrong_outputs m (outputs_of b) ≡ true → tidy_refusal m b ≡ 5
    by_outputs h = past_mesh ∙ ap (λ (w : Bool). cond w 5 0) h

    pub by_none : wrong_outputs m (outputs_of b) ≡ false → tidy_refusal m b ≡ 0
    by_none h = past_mesh ∙ ap (λ (w : Bool). cond w 5 0) h

    pub tidyable : wrong_outputs m (outputs_of b) ≡ false → Tidyable m b
    tidyable h =
        let p = mesh_passed m passed in
        let c = not (eqb (length b.coordinates) (length m.vertices)) in
        let i = not (eqb (length b.indices) (3 * triangle_total m)) in
        let f = not (eqb (length b.firsts) (vertex_total m)) in
        let to-causes = neither (c || i || f) (not (eqb (length b.causes) (triangle_total m))) h in
        let to-firsts = neither (c || i) f to-causes.0 in
        let to-indices = neither c i to-firsts.0 in
        record {
          valid = p.indices;
          threes = p.by_threes;
          few_vertices = p.vertices_few;
          few_triangles = p.triangles_few;
          coordinates = same (length b.coordinates) (length m.vertices) to-indices.0;
          indices = same (length b.indices) (3 * triangle_total m) to-indices.1;
          firsts = same (length b.firsts) (vertex_total m) to-firsts.1;
          causes = same (length b.causes) (triangle_total m) to-causes.1;
        }
      where
        same : (x y : ℕ) → not (eqb x y) ≡ false → x ≡ y
        same x y e = eqb-true x y (not-false (eqb x y) e)
