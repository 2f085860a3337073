-- What the function that writes a job's text promises. Definitions only.
use Rattle.std.specs.Prelude.{ℕ, ◌*◌, ◌≤◌, ◌≡◌, List, length, Option, Some, None}
use Rattle.mesh_topology.specs.declared.Topology.{Topology}
use Rattle.mesh_topology.specs.declared.Indices.{Indices}
use Rattle.mesh_topology.specs.declared.Indices.TheVariants as Are
use Rattle.text.specs.Limits.{most_vertices, most_indices, text_room}
use Rattle.text.specs.TextJob.{job_text}
use Rattle.text_read_job.specs.declared.Asked.{Asked}
use Rattle.text_read_job.specs.Told.{job_in}
use Rattle.lists.specs.Put.{Put}

-- how many indices a job may have; without indices there are 0
abbrev pub most_given : Topology → Indices → ℕ
most_given t Are.Given = most_indices t
most_given t Are.None = 0

-- what can be written: a job within the limits on vertices and indices, which the slices hold; and bytes that hold any text of these
pub record RoomToWrite (a : Asked) (vertices indices out : List ℕ) : Type 0 where
  pub room : text_room ≤ length out
  pub vertices_few : a.vertices ≤ most_vertices
  pub vertices_held : 3 * a.vertices ≤ length vertices
  pub indices_few : a.indices ≤ most_given a.head.topology a.given
  pub indices_held : a.indices ≤ length indices

-- the text of the job stands at the first bytes of out, and the others are as they were; or it cannot be written, and out is as it was
abbrev pub WritesJob : Asked → List ℕ → List ℕ → List ℕ → List ℕ → Option ℕ → Type 0
WritesJob a vertices indices old new None = (RoomToWrite a vertices indices old → ⊥) × (new ≡ old)
WritesJob a vertices indices old new (Some n) = RoomToWrite a vertices indices old × Put old 0 (job_text (job_in a vertices indices)) new n
