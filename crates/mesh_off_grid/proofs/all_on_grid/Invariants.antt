-- `mesh_off_grid::all_on_grid`: the loop's invariant is that no triangle passed lies off the grid. One that does decides the answer, and
-- so does the end of the row. Assumes nothing.
use mathlib.Core.Path.{◌≡◌}
use mathlib.Core.Bool.{true, not}
use Prim.Native.Nat.{ℕ, ◌<◌}
use Rattle.mesh_topology.specs.Topology.{kth}
use Rattle.mesh.specs.Mesh.{mesh_of, triangles_in, corners_of}
use Rattle.mesh_off_grid.specs.OffGrid.{off_box}
use Rattle.mesh.specs.Lent.{mesh_in}
use Rattle.mesh_off_grid.proofs.all_on_grid.Given as goal

abbrev pub invariant-loop-k : goal.invariant-loop-k
invariant-loop-k l =
    let ts = triangles_in (mesh_in l.mesh) in
    (j : ℕ) → j < l.k → not (off_box l.filled (corners_of l.mesh.vertices.now (kth ts j))) ≡ true
