-- The checks but 13 look at a mesh through its vertices and its triangles alone, and a list passes 13. Assumes nothing.
use Prim.Native.Nat.{ℕ}
use mathlib.Core.Path.{◌≡◌, sym, ◌∙◌}
use mathlib.Core.Bool.{not}
use mathlib.Core.List.{[], ◌∷◌}
use Rattle.lists.specs.Checks.{first_that_applies}
use Rattle.lists.specs.Every.{every}
use Rattle.grid.specs.declared.Grid.{Grid}
use Rattle.mesh_topology.specs.declared.Topology.TheVariants.{TriangleList}
use Rattle.mesh_topology.specs.Refusals.{too_many_triangles, all_below_count}
use Rattle.mesh.specs.Mesh.{Mesh, vertex_count, corners_of}
use Rattle.mesh_off_grid.specs.OffGrid.{off_grid, all_on_grid}
use Rattle.run.proofs.SameMesh.{SameMesh}
use Rattle.job_checks.specs.declared.Lengths.{Lengths}
use Rattle.job_checks.specs.Refusals.{wrong_grid, wrong_edition, wrong_vertices, wrong_lengths, checks, refusal_by}
use Rattle.conversion_meaning.specs.AsBefore.{without}

module _ (g : Grid) (e : ℕ) {m n : Mesh} (same : SameMesh m n) (l : Lengths) where
  but_13 : first_that_applies (without 13 (checks g e m l)) ≡ first_that_applies (without 13 (checks g e n l))
  unfolding without all_on_grid
  but_13 =
      λ i.
      first_that_applies (
      record { applies = wrong_grid g; number = 1 } ∷
      record { applies = wrong_edition e; number = 14 } ∷
      record { applies = wrong_vertices (same.vertices i); number = 2 } ∷
      record { applies = too_many_triangles (same.triangles i); number = 3 } ∷
      record { applies = not (all_below_count (vertex_count (same.vertices i)) (same.triangles i)); number = 4 } ∷
      record { applies = not (every (λ t. not (off_grid g (corners_of (same.vertices i) t))) (same.triangles i)); number = 10 } ∷
      record { applies = wrong_lengths g l; number = 5 } ∷
      []
      )

  list_passes : n.topology ≡ TriangleList → refusal_by g e n l ≡ first_that_applies (without 13 (checks g e n l))
  unfolding refusal_by without
  list_passes is = rw is

  -- a list is refused as the other was, of whatever topology it is
  pub refused_as_before : n.topology ≡ TriangleList → refusal_by g e n l ≡ first_that_applies (without 13 (checks g e m l))
  refused_as_before is = list_passes is ∙ sym but_13
