-- The tidied mesh passes the checks that the given one passed: it has no more vertices and triangles, its coordinates are among the given ones,
-- and it is a list with numbers of its own vertices. Assumes nothing.
use native.Mathlib.Omega.{arith}
use mathlib.Core.Path.{◌≡◌}
use Rattle.grid_axis.specs.AxisBounds.{is_coordinate}
use Rattle.lists.specs.Checks.{first_that_applies}
use Rattle.mesh.specs.Mesh.{Mesh}
use Rattle.job_checks.specs.Refusals.{mesh_checks}
use Rattle.job_checks.proofs.MeshPassed.{mesh_passed, mesh_passing}
use Rattle.tidy.specs.Tidy.{tidied}
use Rattle.tidy.proofs.Again.{by_threes, vertices_fit, coordinates_pass, is_list, triangles_fit}
use Rattle.tidy.proofs.Tidied.{tidied_valid}

pub tidied_passes : (m : Mesh) → first_that_applies (mesh_checks m) ≡ 0 → first_that_applies (mesh_checks (tidied m)) ≡ 0
tidied_passes m z =
    let p = mesh_passed m z in
    mesh_passing (tidied m) (record {
      by_threes = by_threes m;
      vertices_few = omega (arith, vertices_fit m, p.vertices_few);
      coordinates = coordinates_pass m is_coordinate p.coordinates;
      a_list = is_list m;
      triangles_few = omega (arith, triangles_fit m, p.triangles_few);
      indices = tidied_valid m p.indices;
    })
