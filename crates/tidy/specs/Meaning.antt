-- "Prove: nothing that has such a cause to go is kept, kept triangles retain their corner bits and order, each dropped one is listed with a
-- true cause, and tidying twice changes nothing." (document 02, §10): what each of these says. They are proved of every mesh that refusal 4
-- leaves: `clean` (proofs/Tidied.antt), `retained`, `squeezed`, `firsts_true`, `causes_true` (Laws), `twice`, `nothing_more` (Twice), and
-- `one_outcome` (One). Definitions only.
use Rattle.std.specs.Prelude.{ℕ, ◌*◌, ◌≤◌, ◌<◌, ◌≡◌, true, false, length, replicate}
use Rattle.lists.specs.Table.{table}
use Rattle.picks.specs.Picks.{InTurn}
use Rattle.mesh_topology.specs.declared.Triangle.{Triangle}
use Rattle.mesh_topology.specs.declared.Topology.TheVariants.{TriangleList}
use Rattle.mesh_topology.specs.declared.Indices.TheVariants.{Given}
use Rattle.mesh_topology.specs.Topology.{kth}
use Rattle.mesh_topology.specs.Refusals.{all_below_count}
use Rattle.mesh_explicit.specs.Explicit.{explicit}
use Rattle.mesh.specs.Mesh.{Mesh, triangles_in}
use Rattle.tidy.specs.Numbers.{two_equal_numbers, same_numbers, has_number}
use Rattle.tidy.specs.Tidy.{vertex_bits, coordinates_at, vertex_total, triangle_total, merged, is_kept, used, kept_vertices, kept_triangles, firsts, causes}

-- what refusal 4 leaves: each number of a triangle is a vertex's
abbrev pub Valid : Mesh → Type 0
Valid m = all_below_count (vertex_total m) (triangles_in m) ≡ true

-- ---- "merges vertices of identical bits (first kept)"

-- f is the first vertex with the bits of vertex v
pub record First (m : Mesh) (v f : ℕ) : Type 0 where
  pub identical : vertex_bits m.vertices f ≡ vertex_bits m.vertices v
  pub not_after_lem : f ≤ v
  pub none_before : (w : ℕ) → w < f → vertex_bits m.vertices w ≡ vertex_bits m.vertices v → ⊥

-- ---- "each dropped one is listed with a true cause"

-- merging done, triangle k has no two equal numbers, and no earlier one has its three
pub record Stays (m : Mesh) (k : ℕ) : Type 0 where
  pub unequal : two_equal_numbers (merged m k) ≡ false
  pub new : (j : ℕ) → j < k → same_numbers (merged m j) (merged m k) ≡ false

-- it has no two equal numbers, and an earlier one that is kept, as c lists them, has its three
pub record Repeats (m : Mesh) (c : ℕ → ℕ) (k : ℕ) : Type 0 where
  pub unequal : two_equal_numbers (merged m k) ≡ false
  pub of : ℕ
  pub earlier : of < k
  pub kept : c of ≡ 0
  pub numbers : same_numbers (merged m of) (merged m k) ≡ true

-- c lists triangle k as it is: "0 kept, or the cause", "1 for equal numbers, else 2"
pub data Listed (m : Mesh) (c : ℕ → ℕ) (k : ℕ) : Type 0 where
  stays : c k ≡ 0 → Stays m k → Listed m c k
  two_equal_lem : c k ≡ 1 → two_equal_numbers (merged m k) ≡ true → Listed m c k
  repeats : c k ≡ 2 → Repeats m c k → Listed m c k

-- ---- "nothing that has such a cause to go is kept"

-- in this mesh no two vertices have identical bits, no triangle has two equal numbers, none has the three of an earlier one, and no
-- vertex is unused
pub record Clean (m : Mesh) : Type 0 where
  pub apart : (v w : ℕ) → v < w → w < vertex_total m → vertex_bits m.vertices v ≡ vertex_bits m.vertices w → ⊥
  pub unequal : (k : ℕ) → k < triangle_total m → two_equal_numbers (kth (triangles_in m) k) ≡ false
  pub new : (j k : ℕ) → j < k → k < triangle_total m → same_numbers (kth (triangles_in m) j) (kth (triangles_in m) k) ≡ false
  pub in_use : (v : ℕ) → v < vertex_total m → (k : ℕ) × (k < triangle_total m) × (has_number (kth (triangles_in m) k) v ≡ true)

-- ---- "kept triangles retain their corner bits and order"

-- corner by corner, triangle t of n has the bits of triangle s of m
pub record SameCorners (m : Mesh) (s : Triangle) (n : Mesh) (t : Triangle) : Type 0 where
  pub a : vertex_bits n.vertices t.a ≡ vertex_bits m.vertices s.a
  pub b : vertex_bits n.vertices t.b ≡ vertex_bits m.vertices s.b
  pub c : vertex_bits n.vertices t.c ≡ vertex_bits m.vertices s.c

-- the triangles of n are those of m that are kept, in their order: triangle k of n is triangle `from k` of m
pub record Retained (m n : Mesh) : Type 0 where
  pub from : ℕ → ℕ
  pub order : InTurn (is_kept m) (triangle_total m) (triangle_total n) from
  pub corners : (k : ℕ) → k < triangle_total n → SameCorners m (kth (triangles_in m) (from k)) n (kth (triangles_in n) k)

-- ---- "squeezes out unused vertices"

-- the vertices of n are those of m that are used, in their order
pub record Squeezed (m n : Mesh) : Type 0 where
  pub from : ℕ → ℕ
  pub order : InTurn (used m) (vertex_total m) (vertex_total n) from
  pub coordinates : (v : ℕ) → v < vertex_total n → coordinates_at n.vertices v ≡ coordinates_at m.vertices (from v)

-- ---- "with explicit indices"

-- a list with indices; no index and no coordinate is left over
pub record ByIndices (m : Mesh) : Type 0 where
  pub is_list : m.topology ≡ TriangleList
  pub has_indices : m.given ≡ Given
  pub no_index_over : m.indices ≡ explicit (triangles_in m)
  pub no_coordinate_over : length m.vertices ≡ 3 * vertex_total m

-- ---- "tidying twice changes nothing"

-- tidying this mesh merges, drops and squeezes out nothing
pub record NothingGoes (m : Mesh) : Type 0 where
  pub none_merged : firsts m ≡ table (λ v. v) (vertex_total m)
  pub none_dropped : causes m ≡ replicate (triangle_total m) 0
  pub vertices_stay : kept_vertices m ≡ vertex_total m
  pub triangles_stay : kept_triangles m ≡ triangle_total m

-- ---- one outcome

-- all that is asked of what m is tidied to. No other mesh is this (`one_outcome`).
pub record IsTidied (m n : Mesh) : Type 0 where
  pub by_indices : ByIndices n
  pub valid : Valid n
  pub retained : Retained m n
  pub squeezed : Squeezed m n
