-- "Its own limits: 256 vertices, 768 indices, 512 cells, 2,048 entries." (document 01, "One job, one listing"); "The job program's index limit for
-- lists rises to 2,298, so the longest old strip of 768 still fits" (document 02, §7). And the buffers that hold what is within them; the
-- code's are in src/lib.rt. Definitions only.
use Rattle.std.specs.Prelude.{ℕ, ◌*◌, max}
use Rattle.mesh_topology.specs.declared.Topology.{Topology}
use Rattle.mesh_topology.specs.declared.Topology.TheVariants.{TriangleList, TriangleStrip}

abbrev pub most_vertices : ℕ
most_vertices = 256

-- 2,298 are three for each triangle of the longest strip, 3 · (768 − 2)
abbrev pub most_indices : Topology → ℕ
most_indices TriangleList = 2298
most_indices TriangleStrip = 768

abbrev pub most_cells : ℕ
most_cells = 512

abbrev pub most_entries : ℕ
most_entries = 2048

-- ---- buffers

-- three coordinates for each vertex
abbrev pub coordinate_room : ℕ
coordinate_room = 3 * most_vertices

-- the indices of either topology
abbrev pub index_room : ℕ
index_room = max (most_indices TriangleList) (most_indices TriangleStrip)

-- three crossing counts for each cell
abbrev pub crossing_room : ℕ
crossing_room = 3 * most_cells

-- the bytes of any listing, and of any text of a job within the limits
abbrev pub listing_room : ℕ
listing_room = 32768

abbrev pub text_room : ℕ
text_room = 40960
