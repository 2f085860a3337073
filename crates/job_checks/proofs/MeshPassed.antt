-- What a mesh that no check refuses is known to be, and that what is known so is not refused: each test that did not apply is a fact, and
-- each fact a test that does not apply. Assumes nothing.
use Prim.Native.Nat.{◌%◌, ◌≤◌}
use native.Mathlib.Omega.{arith}
use mathlib.Core.Path.{◌≡◌, refl, ap}
use mathlib.Core.Bool.{true, false, not, ◌||◌, true≢false}
use mathlib.Core.List.{List, [], ◌∷◌}
use lib.Dec.{eqb, ltb}
use lib.ListN.{length}
use borrow.Author.Tests.{eqb-true, eq-eqb, ltb-false, le-ltb, not-false}
use Rattle.lists.specs.Checks.{Check, first_that_applies}
use Rattle.lists.proofs.Checks.{NoneApplies, neither, none_applies}
use Rattle.mesh_topology.specs.declared.Topology.{Topology}
use Rattle.mesh_topology.specs.declared.Topology.TheVariants.{TriangleList, TriangleStrip}
use Rattle.mesh_topology.specs.Refusals.{is_strip, all_below_count}
use Rattle.mesh.specs.Mesh.{Mesh, vertex_count, triangles_in}
use Rattle.job_checks.specs.Refusals.{all_coordinates, wrong_vertices, wrong_topology, wrong_triangles, wrong_indices, mesh_checks}

pub record MeshPassed (m : Mesh) : Type 0 where
  pub by_threes : length m.vertices % 3 ≡ 0
  pub vertices_few : vertex_count m.vertices ≤ 393216
  pub coordinates : all_coordinates m.vertices ≡ true
  pub a_list : m.topology ≡ TriangleList
  pub triangles_few : length (triangles_in m) ≤ 131072
  pub indices : all_below_count (vertex_count m.vertices) (triangles_in m) ≡ true

pub no_strip : (t : Topology) → is_strip t ≡ false → t ≡ TriangleList
no_strip TriangleList h = refl
no_strip TriangleStrip h = absurd (true≢false h)

pub mesh_passed : (m : Mesh) → first_that_applies (mesh_checks m) ≡ 0 → MeshPassed m
mesh_passed m h =
    let p = none_applies (mesh_checks m) (omega arith) h in
    let vertices-right : wrong_vertices m.vertices ≡ false = search p in
    let topology-right : wrong_topology m ≡ false = search p in
    let triangles-right : wrong_triangles m ≡ false = search p in
    let indices-right : wrong_indices m ≡ false = search p in
    let uneven = not (eqb (length m.vertices % 3) 0) in
    let many = ltb 393216 (vertex_count m.vertices) in
    let to-many = neither (uneven || many) (not (all_coordinates m.vertices)) vertices-right in
    let to-uneven = neither uneven many to-many.0 in
    record {
      by_threes = eqb-true (length m.vertices % 3) 0 (not-false (eqb (length m.vertices % 3) 0) to-uneven.0);
      vertices_few = ltb-false 393216 (vertex_count m.vertices) to-uneven.1;
      coordinates = not-false (all_coordinates m.vertices) to-many.1;
      a_list = no_strip m.topology topology-right;
      triangles_few = ltb-false 131072 (length (triangles_in m)) triangles-right;
      indices = not-false (all_below_count (vertex_count m.vertices) (triangles_in m)) indices-right;
    }

-- where no check applies, 0 is given
none_given : (cs : List Check) → NoneApplies cs → first_that_applies cs ≡ 0
none_given [] n = refl
none_given (c ∷ cs) n = rw n.0 (none_given cs n.1)

pub mesh_passing : (m : Mesh) → MeshPassed m → first_that_applies (mesh_checks m) ≡ 0
mesh_passing m p =
    let vertices-right : wrong_vertices m.vertices ≡ false =
    rw (eq-eqb (length m.vertices % 3) 0 p.by_threes, le-ltb 393216 (vertex_count m.vertices) p.vertices_few, p.coordinates) in
    let triangles-right = le-ltb 131072 (length (triangles_in m)) p.triangles_few in
    none_given (mesh_checks m) (vertices-right, (ap is_strip p.a_list, (triangles-right, (ap not p.indices, tt))))
