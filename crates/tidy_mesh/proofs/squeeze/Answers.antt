-- `tidy_mesh::squeeze`: the marks, their numbers, the triangles and the vertices are the tidied mesh's, one after the other. Assumes nothing.
use native.Mathlib.Omega.{arith}
use Prim.Native.Nat.{ℕ}
use mathlib.Core.Path.{◌≡◌}
use lib.ListN.{length}
use Rattle.lists.proofs.Range.{count_le}
use Rattle.mesh.specs.Mesh.{Mesh, mesh_of}
use Rattle.tidy.specs.Tidy.{kept_vertices, kept_triangles}
use Rattle.tidy_marks.specs.Marks.{kept_by}
use Rattle.tidy_mesh.specs.declared.Kept.{Kept}
use Rattle.tidy_mesh.specs.Outcome.{kept_counts}
use Rattle.tidy_mesh.proofs.Parts.{squeezable, words_long}
use Rattle.tidy_mesh.proofs.Whole.{kept_vertices_lem, kept_triangles_lem, listed_is, packed_is}
use Rattle.mesh.specs.Lent.{mesh_in}
use Rattle.tidy_mesh.proofs.squeeze.Goals as goal

kept : (m : Mesh) {v t : ℕ} → v ≡ kept_vertices m → t ≡ kept_triangles m
    → ◌≡◌ {A = Kept} (record { vertices = v; triangles = t }) (kept_counts m)
kept m e f = λ i. record { vertices = e i; triangles = f i }

pub mark_used-requires : goal.mark_used-requires
mark_used-requires c =
    squeezable _ c.requires.fact c.requires.found _ (words_long _ c.requires.fact)

pub list_kept-kept_triangles-requires : goal.list_kept-kept_triangles-requires
list_kept-kept_triangles-requires c =
    let t = c.requires.fact in
    record {
      fact = squeezable _ t c.requires.found _ (omega (arith, c.number_marked-kept_vertices.auto, c.mark_used.auto, words_long _ t));
      out_len = omega (arith, t.indices, t.causes);
    }

pub overflow_cast-result : goal.overflow_cast-result
overflow_cast-result c =
    let cs = c.args.causes.now in
    omega (arith, c.list_kept-kept_triangles.ensures.value, count_le (kept_by cs) (length cs), c.requires.fact.causes, c.requires.fact.few_triangles)

pub returns : goal.returns
returns c =
    let m : Mesh = mesh_in c.args.mesh in
    let t = c.requires.fact in
    let e = c.requires.found in
    let marks = c.mark_used.ensures in record {
      value = kept m (kept_vertices_lem m t.valid e marks c.number_marked-kept_vertices.ensures.value) (kept_triangles_lem m t.valid e c.list_kept-kept_triangles.ensures.value);
      fact_2 = (
        packed_is m t.valid e marks c.number_marked-kept_vertices.ensures.fact (omega (arith, c.number_marked-kept_vertices.auto, c.mark_used.auto, t.coordinates)) c.pack.ensures,
        listed_is m t.valid e marks c.number_marked-kept_vertices.ensures.fact t.indices c.list_kept-kept_triangles.ensures.out_after,
      );
    }
