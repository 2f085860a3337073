-- The checks group by group: of the grid, of the edition, of the mesh, of where it lies, of the lengths. The first group that gives a number ends
-- it; past one that gave 0 the next is asked. Assumes nothing.
use Prim.Native.Nat.{ℕ}
use mathlib.Core.Path.{◌≡◌, refl, ◌∙◌}
use mathlib.Core.List.{List, ◌++◌}
use native.Mathlib.Omega.{arith}
use Rattle.lists.specs.Checks.{Check, first_that_applies}
use Rattle.lists.proofs.Checks.{past_group, by_group}
use Rattle.grid.specs.declared.Grid.{Grid}
use Rattle.mesh.specs.Mesh.{Mesh}
use Rattle.job_checks.specs.declared.Lengths.{Lengths}
use Rattle.job_checks.specs.Refusals.{grid_checks, edition_checks, mesh_checks, place_checks, length_checks, refusal_by}

module _ (g : Grid) (e : ℕ) (m : Mesh) (l : Lengths) where
  -- the groups that follow the mesh's, the edition's, and the grid's
  abbrev after_mesh : List Check
  after_mesh = place_checks g m ++ length_checks g l

  abbrev after_edition : List Check
  after_edition = mesh_checks m ++ after_mesh

  abbrev after_grid : List Check
  after_grid = edition_checks e ++ after_edition

  in_order_lem : refusal_by g e m l ≡ first_that_applies (grid_checks g ++ after_grid)
  unfolding refusal_by
  in_order_lem = refl

  pub by_grid : (first_that_applies (grid_checks g) ≡ 0 → ⊥) → refusal_by g e m l ≡ first_that_applies (grid_checks g)
  by_grid h = in_order_lem ∙ by_group (grid_checks g) after_grid h

  module _ (grid_passed : first_that_applies (grid_checks g) ≡ 0) where
    past_grid : refusal_by g e m l ≡ first_that_applies after_grid
    past_grid = in_order_lem ∙ past_group (grid_checks g) after_grid (omega arith) grid_passed

    pub by_edition_lem : (first_that_applies (edition_checks e) ≡ 0 → ⊥) → refusal_by g e m l ≡ first_that_applies (edition_checks e)
    by_edition_lem h = past_grid ∙ by_group (edition_checks e) after_edition h

    module _ (edition_passed : first_that_applies (edition_checks e) ≡ 0) where
      past_edition : refusal_by g e m l ≡ first_that_applies after_edition
      past_edition = past_grid ∙ past_group (edition_checks e) after_edition (omega arith) edition_passed

      pub by_mesh : (first_that_applies (mesh_checks m) ≡ 0 → ⊥) → refusal_by g e m l ≡ first_that_applies (mesh_checks m)
      by_mesh h = past_edition ∙ by_group (mesh_checks m) after_mesh h

      module _ (mesh_passed : first_that_applies (mesh_checks m) ≡ 0) where
        past_mesh : refusal_by g e m l ≡ first_that_applies after_mesh
        past_mesh = past_edition ∙ past_group (mesh_checks m) after_mesh (omega arith) mesh_passed

        pub by_place : (first_that_applies (place_checks g m) ≡ 0 → ⊥) → refusal_by g e m l ≡ first_that_applies (place_checks g m)
        by_place h = past_mesh ∙ by_group (place_checks g m) (length_checks g l) h

        pub past_place : first_that_applies (place_checks g m) ≡ 0 → refusal_by g e m l ≡ first_that_applies (length_checks g l)
        past_place z = past_mesh ∙ past_group (place_checks g m) (length_checks g l) (omega arith) z
