-- "List: consecutive threes, one or two left over are ignored and not checked. Strip: every window of three, in order, winding
-- as it comes. Without indices the vertex numbers 0, 1, 2 .. stand in. Fewer than three: no triangle. Indices are u32;
-- triangles are numbered from 0 in this order." (document 01, "Topology"). Definitions only.
use Rattle.std.specs.Prelude.{List, [], ◌∷◌, ℕ, zero, suc, ◌-◌, ◌*◌, ◌/◌, get_or}
use Rattle.mesh_topology.specs.declared.Topology.{Topology}
use Rattle.mesh_topology.specs.declared.Topology.TheVariants.{TriangleList, TriangleStrip}
use Rattle.mesh_topology.specs.declared.Indices.{Indices}
use Rattle.mesh_topology.specs.declared.Indices.TheVariants.{Given, None}
use Rattle.mesh_topology.specs.declared.Triangle.{Triangle}

-- the n numbers from a on
unfoldable pub count_from : ℕ → ℕ → List ℕ
count_from a zero = []
count_from a (suc n) = a ∷ count_from (suc a) n

-- the corners in order: the indices, or "without indices the vertex numbers 0, 1, 2 .."
abbrev pub corners : Indices → List ℕ → ℕ → List ℕ
corners Given indices vertices = indices
corners None indices vertices = count_from 0 vertices

abbrev pub triangle : ℕ → ℕ → ℕ → Triangle
triangle a b c = record { a = a; b = b; c = c }

-- "consecutive threes, one or two left over are ignored"
unfoldable pub threes : List ℕ → List Triangle
threes (a ∷ b ∷ c ∷ rest) = triangle a b c ∷ threes rest
threes (a ∷ b ∷ []) = []
threes (a ∷ []) = []
threes [] = []

-- "every window of three, in order, winding as it comes"
unfoldable pub windows : List ℕ → List Triangle
windows (a ∷ b ∷ c ∷ rest) = triangle a b c ∷ windows (b ∷ c ∷ rest)
windows (a ∷ b ∷ []) = []
windows (a ∷ []) = []
windows [] = []

-- the triangles that a row of corners makes, in the order in which they are numbered
unfoldable pub triangles : Topology → List ℕ → List Triangle
triangles TriangleList cs = threes cs
triangles TriangleStrip cs = windows cs

-- the same for a mesh as it is given: topology, whether there are indices, the indices, how many vertices
abbrev pub triangles_of : Topology → Indices → List ℕ → ℕ → List Triangle
triangles_of t given indices vertices = triangles t (corners given indices vertices)

-- the k-th triangle, for a k below their number
abbrev pub kth : List Triangle → ℕ → Triangle
kth ts k = get_or ts k (triangle 0 0 0)

-- By numbers alone: how many triangles n corners make, and with which corner the k-th begins. `proofs/Laws.antt` has that these
-- agree with the row above.
abbrev pub triangle_count : Topology → ℕ → ℕ
triangle_count TriangleList n = n / 3
triangle_count TriangleStrip n = n - 2

abbrev pub first_corner : Topology → ℕ → ℕ
first_corner TriangleList k = 3 * k
first_corner TriangleStrip k = k
