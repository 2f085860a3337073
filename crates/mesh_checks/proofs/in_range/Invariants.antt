-- `mesh_checks::in_range`: the loop's invariant is that the corners of each triangle passed are below the vertex count. A triangle
-- with another corner decides the answer, and so does the end of the row. Assumes nothing.
use mathlib.Core.Path.{◌≡◌}
use mathlib.Core.Bool.{true}
use Prim.Native.Nat.{ℕ, ◌<◌}
use Rattle.mesh_topology.specs.Topology.{triangles_of, kth}
use Rattle.mesh_topology.specs.Refusals.{below_count}
use Rattle.mesh_checks.proofs.in_range.Given as goal

abbrev pub invariant-loop-k : goal.invariant-loop-k
invariant-loop-k l =
    (j : ℕ) → j < l.k → below_count l.vertices (kth (triangles_of l.topology l.given l.indices l.vertices) j) ≡ true
