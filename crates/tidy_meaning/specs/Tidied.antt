-- "Prove: nothing that has such a cause to go is kept, kept triangles retain their corner bits and order, each dropped one is listed with a
-- true cause" (document 02, §10), of a call: of the counts that it answers and of the outputs that the caller then holds. Definitions only;
-- proofs/Theorem.antt shows that they hold (`tidied_after_a_call`, `tidied_after_a_call_from_c`, `one_meaning`).
use Rattle.std.specs.Prelude.{ℕ, ◌*◌, ◌-◌, ◌<◌, ◌≡◌, eqb, length, get_or, take, drop, replicate}
use Rattle.mesh_topology.specs.declared.Topology.TheVariants.{TriangleList}
use Rattle.mesh_topology.specs.declared.Indices.TheVariants.{Given}
use Rattle.mesh.specs.Mesh.{Mesh, mesh_of}
use Rattle.tidy.specs.Padded.{plus_zero}
use Rattle.tidy.specs.Tidy.{vertex_total, triangle_total, is_kept, tidied}
use Rattle.tidy.specs.Meaning.{First, Listed, Clean, Retained, Squeezed}
use Rattle.tidy_mesh.specs.declared.Kept.{Kept}
use Rattle.refusals.specs.Numbers.{Reply, given}
use Rattle.tidy_mesh.specs.Outcome.{TidyLent, kept_counts, tidy_left, tidy_outcome, GivesTidy}
use Rattle.c_tidy.specs.declared.SdfTidyAnswer.{SdfTidyAnswer}
use Rattle.c_tidy.specs.Tidy.{GivesTidyC}

-- the mesh that the caller finds: as many vertices and triangles as are answered, in front of the outputs
abbrev pub mesh_left : Kept → TidyLent → Mesh
mesh_left k left = mesh_of (take (3 * k.vertices) left.coordinates) TriangleList Given (take (3 * k.triangles) left.indices)

-- m was tidied; k was answered, and this was left
pub record TidyMeans (m : Mesh) (k : Kept) (left : TidyLent) : Type 0 where
  -- what is found is the tidied mesh, and the counts are its own
  pub is_tidied : mesh_left k left ≡ tidied m
  pub vertices : k.vertices ≡ vertex_total (mesh_left k left)
  pub triangles : k.triangles ≡ triangle_total (mesh_left k left)
  -- "nothing that has such a cause to go is kept"
  pub clean : Clean (mesh_left k left)
  -- "kept triangles retain their corner bits and order", and used vertices theirs
  pub retained : Retained m (mesh_left k left)
  pub squeezed : Squeezed m (mesh_left k left)
  -- "a u32 a vertex (its first)"
  pub first_each : length left.firsts ≡ vertex_total m
  pub first_true : (v : ℕ) → v < vertex_total m → First m v (get_or left.firsts v 0)
  -- "and a triangle (0 kept, or the cause)": "each dropped one is listed with a true cause", and the kept ones are those listed with 0
  pub cause_each : length left.causes ≡ triangle_total m
  pub cause_true : (j : ℕ) → j < triangle_total m → Listed m (λ i. get_or left.causes i 0) j
  pub cause_kept : (j : ℕ) → j < triangle_total m → is_kept m j ≡ eqb (get_or left.causes j 0) 0
  -- "coordinates as given, three indices a triangle, tails zero"
  pub coordinates_each : length left.coordinates ≡ length m.vertices
  pub indices_each : length left.indices ≡ 3 * triangle_total m
  pub coordinates_tail : drop (3 * k.vertices) left.coordinates ≡ replicate (length m.vertices - 3 * k.vertices) plus_zero
  pub indices_tail : drop (3 * k.triangles) left.indices ≡ replicate (3 * triangle_total m - 3 * k.triangles) 0

-- no other counts and outputs mean this: all of them are fixed
abbrev pub OneMeaning : Mesh → Kept → TidyLent → Type 0
OneMeaning m k left = TidyMeans m k left → (k ≡ kept_counts m) × (left ≡ tidy_left m)

-- ---- of calls

-- of a call of the public function, by its contract: it was given the mesh m and lent the outputs b, and it answered (in numbers, as
-- the documents do) and left this
abbrev pub TidiedAfterCall : Mesh → TidyLent → Reply Kept → TidyLent → Type 0
TidiedAfterCall m b answer left = GivesTidy (tidy_outcome m b) answer left → (k : Kept) → answer ≡ given k → TidyMeans m k left

-- the same of a call from C, which is answered a number and both counts
abbrev pub kept_in : SdfTidyAnswer → Kept
kept_in answer = record { vertices = answer.vertices; triangles = answer.triangles }

abbrev pub TidiedAfterCallFromC : Mesh → TidyLent → SdfTidyAnswer → TidyLent → Type 0
TidiedAfterCallFromC m b answer left =
    GivesTidyC (tidy_outcome m b) answer left → answer.number ≡ 0 → TidyMeans m (kept_in answer) left
