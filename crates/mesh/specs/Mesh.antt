-- A mesh as it is lent: the vertices as a row of coordinates, "three f32 each" (document 01, "Bounds on a job"), and how corners make
-- triangles. Definitions only.
use Rattle.std.specs.Prelude.{◌≡◌, Bool, true, false, List, ℕ, ◌+◌, ◌*◌, ◌/◌, ◌^◌, ◌<◌, length, get_or, Float}
use Rattle.std.specs.Float.{nan}
use Rattle.point.specs.Point.{vec}
use Rattle.point.specs.declared.Point.{Point}
use Rattle.mesh_topology.specs.declared.Topology.{Topology}
use Rattle.mesh_topology.specs.declared.Indices.{Indices}
use Rattle.mesh_topology.specs.declared.Triangle.{Triangle}
use Rattle.mesh_topology.specs.Topology.{triangles_of, kth}
use Rattle.mesh_topology.specs.Refusals.{all_below_count}
use Rattle.mesh.specs.declared.Corners.{Corners}

pub record Mesh : Type 0 where
  pub vertices : List Float
  pub topology : Topology
  pub given : Indices
  pub indices : List ℕ

abbrev pub mesh_of : List Float → Topology → Indices → List ℕ → Mesh
mesh_of vertices topology given indices = record { vertices = vertices; topology = topology; given = given; indices = indices }

abbrev pub vertex_count : List Float → ℕ
vertex_count vs = length vs / 3

-- the triangles, in the order in which they are numbered
abbrev pub triangles_in : Mesh → List Triangle
triangles_in m = triangles_of m.topology m.given m.indices (vertex_count m.vertices)

-- vertex i, and the corners of triangle k
unfoldable pub vertex_at : List Float → ℕ → Point
vertex_at vs i = vec (get_or vs (3 * i) nan) (get_or vs (3 * i + 1) nan) (get_or vs (3 * i + 2) nan)

unfoldable pub corners_of : List Float → Triangle → Corners
corners_of vs t = record { a = vertex_at vs t.a; b = vertex_at vs t.b; c = vertex_at vs t.c }

unfoldable pub corners_at : Mesh → ℕ → Corners
corners_at m k = corners_of m.vertices (kth (triangles_in m) k)

-- every index that a triangle uses is a vertex: what refusal 4 leaves
pub record Sound (m : Mesh) : Type 0 where
  pub few : vertex_count m.vertices < 2 ^ 32
  pub below : all_below_count (vertex_count m.vertices) (triangles_in m) ≡ true
