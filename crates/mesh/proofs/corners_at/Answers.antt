-- `mesh::corners_at`: each corner of triangle k is a vertex, by what refusal 4 leaves. Assumes nothing.
use mathlib.Core.Path.{sym, subst}
use Prim.Native.Nat.{ℕ, ◌<◌}
use Rattle.mesh_topology.specs.declared.Triangle.{Triangle}
use Rattle.mesh_topology.proofs.Laws.{Vertices, vertices_at_lem}
use Rattle.mesh.specs.Mesh.{vertex_count, triangles_in, mesh_of, corners_at}
use Rattle.mesh.specs.Lent.{mesh_in}
use Rattle.mesh.proofs.corners_at.Goals as goal

abbrev Three : ℕ → Triangle → Type 0
Three v t = (t.a < v) × (t.b < v) × (t.c < v)

three : {v : ℕ} {t : Triangle} → Vertices v t → Three v t
three w = (w.a_below, w.b_below, w.c_below)

pub corners_of-requires : goal.corners_of-requires
corners_of-requires c =
    let m = mesh_in c.args.mesh in
    let v = vertex_count c.args.mesh.vertices.now in
    subst (Three v) (sym c.triangle_at-t.ensures) (three (vertices_at_lem v (triangles_in m) c.args.k c.requires.sound.below c.requires.k_in_bounds))

pub returns : goal.returns
unfolding corners_at
returns c = rw c.triangle_at-t.ensures at c.corners_of.ensures
