-- A job "with its triangles listed by explicit indices" (document 02, §7): as which indices its triangles are listed. Definitions only.
use Rattle.std.specs.Prelude.{ℕ, List, [], ◌∷◌}
use Rattle.lists.specs.Joined.{each}
use Rattle.mesh_topology.specs.declared.Triangle.{Triangle}

-- the vertex numbers of a triangle, in the order in which its corners come
abbrev pub vertex_numbers : Triangle → List ℕ
vertex_numbers t = t.a ∷ t.b ∷ t.c ∷ []

-- those of each triangle in turn. As a list they name these triangles again, in this order (`threes_explicit`, proofs/Laws.antt).
abbrev pub explicit : List Triangle → List ℕ
explicit ts = each vertex_numbers ts
