-- `mesh_explicit::list_triangles`: a piece of three numbers for each triangle, one behind the other. Assumes nothing.
use Prim.Native.Nat.{ℕ}
use mathlib.Core.List.{List}
use Rattle.lists.proofs.Puts.{Pieces}
use Rattle.mesh_topology.specs.declared.Triangle.{Triangle}
use Rattle.mesh_topology.specs.Topology.{triangles_of, kth}
use Rattle.mesh_explicit.specs.Explicit.{vertex_numbers}
use Rattle.mesh_explicit.proofs.list_triangles.Given as goal

abbrev pub piece : List Triangle → ℕ → List ℕ
piece ts k = vertex_numbers (kth ts k)

abbrev pub invariant-loop-k : goal.invariant-loop-k
invariant-loop-k l =
    Pieces (piece (triangles_of l.topology l.given l.indices l.vertices)) 3 l.initial.out 0 l.n l.out l.k l.next
