-- A job that was read, by its parts, is tidied as its text asks, in buffers that hold any mesh within the limits: a list of 2,298 indices
-- and a strip of 768 have 766 triangles. Assumes nothing.
use Prim.Native.Nat.{ℕ, ◌+◌, ◌*◌, ◌≤◌}
use native.Mathlib.Omega.{arith}
use mathlib.Core.Path.{◌≡◌, refl}
use mathlib.Core.List.{List}
use lib.ListN.{length, take}
use lib.Seq.{length-take-le}
use Rattle.lists.specs.Put.{Put}
use Rattle.lists.proofs.Puts.{said}
use Rattle.float_bits.specs.Patterns.{floats_of}
use Rattle.mesh_topology.specs.declared.Topology.{Topology}
use Rattle.mesh_topology.specs.declared.Topology.TheVariants.{TriangleList, TriangleStrip}
use Rattle.mesh_topology.specs.declared.Indices.{Indices}
use Rattle.mesh_topology.specs.Topology.{corners, triangles_of}
use Rattle.mesh_topology.proofs.Laws.{corners_fit, count_is}
use Rattle.text.specs.Limits.{most_vertices, most_indices, coordinate_room, index_room}
use Rattle.text.specs.Answering.{Answered, answer_line}
use Rattle.text.specs.TextJob.{TextJob, Readable, job_text}
use Rattle.text_read_job.specs.declared.Asked.{Asked}
use Rattle.text_read_job.specs.Reading.{HoldsJob}
use Rattle.text_read_job.proofs.Held.{bits_held, indices_held}
use Rattle.text_tidy.specs.Tidied.{printed, Tidies, tidying_of, no_job, tidy_room}
use Rattle.text_tidy.specs.Parts.{printed_of, held_text, SmallMesh}

pub few_triangles : (t : Topology) (given : Indices) (is : List ℕ) (vertices : ℕ) → length is ≤ most_indices t → vertices ≤ most_vertices
    → 3 * length (triangles_of t given is vertices) ≤ most_indices TriangleList
few_triangles TriangleList given is vertices i v =
    let few = corners_fit given is vertices (most_indices TriangleList + 1) (omega arith) (omega arith) in
    omega (arith, count_is TriangleList (corners given is vertices))
few_triangles TriangleStrip given is vertices i v =
    let few = corners_fit given is vertices (most_indices TriangleStrip + 1) (omega arith) (omega arith) in
    omega (arith, count_is TriangleStrip (corners given is vertices))

module _
    {j : TextJob} {a : Asked} {vertices indices : List ℕ} (h : HoldsJob j a vertices indices)
    (bits_long : coordinate_room ≤ length vertices) (indices_long : index_room ≤ length indices) where
  pub small : {out : List ℕ} → tidy_room ≤ length out → SmallMesh a (take (3 * a.vertices) vertices) (take a.indices indices) out
  small room =
      let v = length-take-le (3 * a.vertices) vertices (bits_held h bits_long) in
      let i = length-take-le a.indices indices (indices_held h indices_long) in
      record {
        coordinates_few = omega (arith, h.vertices_few);
        triangles_few =
            few_triangles a.head.topology a.given (take a.indices indices) _
            (omega (arith, h.indices_few)) (omega (arith, h.vertices_few));
        room = room;
      }

  pub answered : {text old new : List ℕ} {n : ℕ} → Readable j → text ≡ job_text j
      → Put old 0 (held_text a (floats_of (take (3 * a.vertices) vertices)) (take a.indices indices)) new n
      → Answered Tidies text old new n
  answered r e p =
      let is : held_text a (floats_of (take (3 * a.vertices) vertices)) (take a.indices indices) ≡ printed j =
      λ i. printed_of (h.head_is i) (floats_of (h.vertices_are i)) (h.given_is i) (h.indices_are i) (h.tail_is i) in
      record { output = printed j; owes = tidying_of j r e refl; put = said is refl p }

pub nine : {text old new : List ℕ} {n : ℕ} → ((j : TextJob) → Readable j → text ≡ job_text j → ⊥) → Put old 0 (answer_line 9) new n
    → Answered Tidies text old new n
nine none p = record { output = answer_line 9; owes = no_job none refl; put = p }
