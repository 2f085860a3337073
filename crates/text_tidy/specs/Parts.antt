-- What the parts of the program hand to each other, and what each asks for. No one need believe it. Definitions only.
use Rattle.std.specs.Prelude.{ℕ, ◌+◌, ◌*◌, ◌/◌, ◌≤◌, ◌<◌, ◌≡◌, List, ◌++◌, length, get_or, take, Float}
use Rattle.lists.specs.Table.{table}
use Rattle.mesh_topology.specs.declared.Topology.TheVariants.{TriangleList}
use Rattle.mesh_topology.specs.declared.Indices.{Indices}
use Rattle.mesh_topology.specs.declared.Indices.TheVariants.{Given}
use Rattle.mesh_topology.specs.Topology.{triangles_of}
use Rattle.mesh.specs.Mesh.{Mesh, mesh_of}
use Rattle.tidy.specs.Tidy.{vertex_total, triangle_total}
use Rattle.tidy_mesh.specs.declared.Kept.{Kept}
use Rattle.tidy_mesh.specs.Outcome.{TidyLent}
use Rattle.text.specs.declared.Head.{Head}
use Rattle.text.specs.declared.Tail.{Tail}
use Rattle.text.specs.Limits.{most_vertices, most_indices, coordinate_room, text_room}
use Rattle.text.specs.TextJob.{TextJob, these, job_text}
use Rattle.text_read_job.specs.declared.Asked.{Asked}
use Rattle.text_tidy.specs.declared.Went.TheVariants.{Merged, Dropped}
use Rattle.text_tidy.specs.Tidied.{mesh_refusal, went_lines, vertex_said, printed_by, tidy_room}

-- fewer than 1,000 numbers, and fewer than 1,000 each: a line of such a number and its value has at most 14 bytes
pub record Short (values : List ℕ) : Type 0 where
  pub few : length values ≤ 1000
  pub small : (i : ℕ) → i < length values → get_or values i 0 < 1000

-- the job of as many vertices and triangles as are kept, from the front of what they are kept in, with the other lines of the record
abbrev pub kept_job : Asked → Kept → List Float → List ℕ → TextJob
kept_job a k coordinates indices =
    record {
      head = a.head;
      vertices = table (vertex_said coordinates) k.vertices;
      indices = these (take (3 * k.triangles) indices);
      tail = a.tail;
    }

-- the record of that job
abbrev pub kept_asked : Asked → Kept → Asked
kept_asked a k = record { head = a.head; vertices = k.vertices; given = Given; indices = 3 * k.triangles; tail = a.tail }

-- it can be written at a place of `out`
pub record RoomForKept (a : Asked) (k : Kept) (coordinates : List Float) (indices : List ℕ) (at : ℕ) (out : List ℕ) : Type 0 where
  pub room : at + text_room ≤ length out
  pub vertices_few : k.vertices ≤ most_vertices
  pub vertices_held : 3 * k.vertices ≤ length coordinates
  pub coordinates_few : length coordinates ≤ coordinate_room
  pub indices_few : 3 * k.triangles ≤ most_indices a.head.topology
  pub indices_held : 3 * k.triangles ≤ length indices

-- what is printed for a job by its parts, with the floats of its coordinates; and for that of a record
abbrev pub printed_of : Head → List Float → Indices → List ℕ → Tail → List ℕ
printed_of h vertices given indices t =
    let m = mesh_of vertices h.topology given indices in
    printed_by (mesh_refusal m) h m t

abbrev pub held_text : Asked → List Float → List ℕ → List ℕ
held_text a vertices indices = printed_of a.head vertices a.given indices a.tail

-- ---- the outputs that a tidying left

-- what they say went, and the job that they hold
abbrev pub left_text : Asked → Kept → TidyLent → List ℕ
left_text a k left =
    went_lines Merged (λ i. get_or left.firsts i 0) (length left.firsts)
    ++ went_lines Dropped (λ i. get_or left.causes i 0) (length left.causes)
    ++ job_text (kept_job a k left.coordinates left.indices)

-- it can be written at the front of `out`
pub record RoomForLeft (a : Asked) (k : Kept) (left : TidyLent) (out : List ℕ) : Type 0 where
  pub merges_short : Short left.firsts
  pub drops_short : Short left.causes
  pub kept_fits : RoomForKept a k left.coordinates left.indices (14 * (length left.firsts + length left.causes)) out

-- a mesh within the job program's limits, outputs of the lengths that refusal 5 asks for, and bytes for whatever is printed
pub record RightlyLent (m : Mesh) (lent : TidyLent) (out : List ℕ) : Type 0 where
  pub vertices_few : length m.vertices ≤ coordinate_room
  pub triangles_few : 3 * triangle_total m ≤ most_indices TriangleList
  pub coordinates_long : length lent.coordinates ≡ length m.vertices
  pub indices_long : length lent.indices ≡ 3 * triangle_total m
  pub firsts_long : length lent.firsts ≡ vertex_total m
  pub causes_long : length lent.causes ≡ triangle_total m
  pub room : tidy_room ≤ length out

-- a record with the bits of its coordinates and its indices, of which buffers hold as many as the job program takes
pub record SmallMesh (a : Asked) (bits indices out : List ℕ) : Type 0 where
  pub coordinates_few : length bits ≤ coordinate_room
  pub triangles_few : 3 * length (triangles_of a.head.topology a.given indices (length bits / 3)) ≤ most_indices TriangleList
  pub room : tidy_room ≤ length out
