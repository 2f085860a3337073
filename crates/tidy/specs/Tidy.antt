-- "Write a tool that merges vertices of identical bits (first kept; −0 and +0 remain apart), drops triangles with two equal vertex numbers,
-- drops later triangles with the same three numbers in any order, and squeezes out unused vertices." (document 02, §10): what each of
-- these is, of any mesh, and the tidied mesh. Definitions only.
use Rattle.std.specs.Prelude.{ℕ, ◌+◌, ◌*◌, Bool, ◌&&◌, List, [], ◌∷◌, length, get_or, Float}
use Rattle.std.proofs.Math.Bool.{cond}
use Rattle.std.proofs.Math.Dec.{eqb}
use Rattle.std.specs.Float.{nan, binary32}
use Rattle.std.specs.Float.Ieee.{to_bits}
use Rattle.lists.specs.Range.{count_below}
use Rattle.lists.specs.Table.{table}
use Rattle.lists.specs.Joined.{joined}
use Rattle.picks.specs.Picks.{least, some, select}
use Rattle.mesh_topology.specs.declared.Triangle.{Triangle}
use Rattle.mesh_topology.specs.declared.Topology.TheVariants.{TriangleList}
use Rattle.mesh_topology.specs.declared.Indices.TheVariants.{Given}
use Rattle.mesh_topology.specs.Topology.{kth}
use Rattle.mesh_explicit.specs.Explicit.{explicit}
use Rattle.mesh.specs.Mesh.{Mesh, mesh_of, vertex_count, triangles_in}
use Rattle.tidy.specs.declared.ThreeWords.{ThreeWords}
use Rattle.tidy.specs.Same.{same_words}
use Rattle.tidy.specs.Numbers.{renumbered, two_equal_numbers, same_numbers, has_number}

-- the bits of vertex v's coordinates. After refusal 2 no coordinate is a NaN, so each has one pattern.
unfoldable pub vertex_bits : List Float → ℕ → ThreeWords
vertex_bits vs v =
    record {
      a = to_bits binary32 (get_or vs (3 * v) nan);
      b = to_bits binary32 (get_or vs (3 * v + 1) nan);
      c = to_bits binary32 (get_or vs (3 * v + 2) nan);
    }

-- its coordinates, as they are lent
abbrev pub coordinates_at : List Float → ℕ → List Float
coordinates_at vs v = get_or vs (3 * v) nan ∷ get_or vs (3 * v + 1) nan ∷ get_or vs (3 * v + 2) nan ∷ []

module _ (m : Mesh) where
  -- how many vertices and triangles are given
  abbrev pub vertex_total : ℕ
  vertex_total = vertex_count m.vertices

  abbrev pub triangle_total : ℕ
  triangle_total = length (triangles_in m)

  -- "merges vertices of identical bits (first kept)": the first vertex with the bits of v, in the given numbering; v itself where none
  -- before it has them
  unfoldable pub first_of : ℕ → ℕ
  first_of v = least (λ w. same_words (vertex_bits m.vertices w) (vertex_bits m.vertices v)) v

  -- triangle k with the firsts for its numbers
  unfoldable pub merged : ℕ → Triangle
  unfolding first_of
  merged k = renumbered first_of (kth (triangles_in m) k)

  -- why triangle k goes: 1, "two equal vertex numbers"; else 2, it is later than one "with the same three numbers in any order"; or 0, kept
  unfoldable pub cause : ℕ → ℕ
  unfolding merged
  cause k = cond (two_equal_numbers (merged k)) 1 (cond (some (λ j. same_numbers (merged j) (merged k)) k) 2 0)

  unfoldable pub is_kept : ℕ → Bool
  unfolding cause
  is_kept k = eqb (cause k) 0

  -- "squeezes out unused vertices": used is what a kept triangle has
  unfoldable pub used : ℕ → Bool
  unfolding is_kept
  used v = some (λ k. is_kept k && has_number (merged k) v) triangle_total

  -- "Both kept counts are returned."
  unfoldable pub kept_vertices : ℕ
  unfolding used
  kept_vertices = count_below used vertex_total

  unfoldable pub kept_triangles : ℕ
  unfolding is_kept
  kept_triangles = count_below is_kept triangle_total

  -- the number that vertex v has in the tidied mesh: how many used ones come before it
  unfoldable pub number_after : ℕ → ℕ
  unfolding used
  number_after v = count_below used v

  -- which given vertex is vertex i of the tidied mesh, and which given triangle is triangle k
  unfoldable pub vertex_from : ℕ → ℕ
  unfolding used
  vertex_from i = select used vertex_total i

  unfoldable pub triangle_from : ℕ → ℕ
  unfolding is_kept
  triangle_from k = select is_kept triangle_total k

  -- ---- the tidied mesh

  unfoldable pub tidied_coordinates : List Float
  unfolding vertex_from kept_vertices
  tidied_coordinates = joined (λ i. coordinates_at m.vertices (vertex_from i)) kept_vertices

  unfoldable pub tidied_triangles : List Triangle
  unfolding triangle_from kept_triangles number_after
  tidied_triangles = table (λ k. renumbered number_after (merged (triangle_from k))) kept_triangles

  -- a list with explicit indices
  unfoldable pub tidied : Mesh
  unfolding tidied_coordinates tidied_triangles
  tidied = mesh_of tidied_coordinates TriangleList Given (explicit tidied_triangles)

  -- ---- "a u32 a vertex (its first) and a triangle (0 kept, or the cause)"

  abbrev pub firsts : List ℕ
  firsts = table first_of vertex_total

  abbrev pub causes : List ℕ
  causes = table cause triangle_total
